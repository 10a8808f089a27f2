-- Each view that comes to hold a cleared cell allows that, and no version that it reaches names the cell.
use Rattle.std.proofs.Common.{◌≡◌, ◌∙◌, ℕ, Bool, true, false, Option, Some, refl, sym, ap, subst}
use Rattle.fbc_kinds.specs.declared.edits.Edit.TheVariants.{ClearCell}
use Rattle.fbc_kinds.specs.declared.pages.Cell.{Cell}
use Rattle.fbc_kinds.specs.declared.pages.State.TheVariants.{Dead}
use Rattle.fbc_kinds.specs.Chain.{state_of}
use Rattle.fbc_kinds.specs.Sound.{IsSound}
use Rattle.fbc_kinds.specs.View.{View, cell_at, is_back, is_committed_state}
use Rattle.fbc_version_edits.specs.Forms.{AllowsClear}
use Rattle.fbc_page_edits.specs.Facing.{IsLinked}
use Rattle.fbc_legal.specs.Facts.{HasTaken}
use Rattle.fbc_legal.specs.Guards.{GuardOfEdit}
use Rattle.fbc_legal.specs.Leans.{ClearLeans, MayClear}
use Rattle.fbc_legal.specs.Rows.{IsClearing}
use Rattle.fbc_legal.specs.Scene.{Scene, born_at, newest_at}
use Rattle.fbc_legal.specs.Stamps.{Stamps}
use Rattle.fbc_closed_cuts.specs.Owed.{SeesEdit}
use Rattle.fbc_numbers.specs.Numbers.{is_committed_in}
use Rattle.fbc_version_edits.proofs.Flags.{back_of_top, unlinked}
use Rattle.fbc_origins.specs.Owed.{IsInOrder}
use Rattle.std.specs.Prelude.{Contains}
use Rattle.fbc_origins.proofs.Meant.{in-seen}
use Rattle.fbc_closed_cuts.proofs.LeansSeen.{lean-seen}
use Rattle.fbc_origins.proofs.Seeing.{committed-newest, committed-seen, seen-sound, stands-seen}

-- What stands in a cell that no version names.
pub record IsUnnamed (seen : View) (page cell : ℕ) : Type 0 where
  pub old : Cell
  pub stands : cell_at seen page cell ≡ Some old
  pub unnamed : ¬ IsLinked seen page cell

module _ (at : Scene) (order : IsInOrder at) (owner page cell : ℕ) (g : GuardOfEdit at owner page (ClearCell cell)) (seen : View) (stamps : ℕ → Stamps) (sees : SeesEdit at owner page seen stamps) where
  stands : (old : Cell) → cell_at (newest_at at) page cell ≡ Some old → cell_at seen page cell ≡ Some old
  stands old is = stands-seen at owner page seen stamps sees cell old is

  dead_fails : (number : ℕ) → state_of (newest_at at) number ≡ Dead → (b : Bool) → is_committed_in seen number ≡ b → b ≡ false
  dead_fails number dead false is = refl
  dead_fails number dead true is =
      absurd (let wrong : is_committed_state Dead ≡ true = ap is_committed_state (sym dead) ∙ committed-newest at owner page seen stamps sees order.numbered.grow number is in cc)

  -- A back value that the owner's edit made unreached.
  unreached : (old : Cell) → cell_at (newest_at at) page cell ≡ Some old → is_back old.flag ≡ true → ¬ IsLinked seen page cell
  unreached old there value =
      let leans : ClearLeans at owner page cell = subst (λ (o : Option Cell). MayClear at owner page cell o) there g.leans value in
      in-seen at (λ view origin. Contains (origin leans.page).edits leans.stamp → (origin page).born cell ≡ born_at at page cell → ¬ IsLinked view page cell) owner page seen stamps sees
      (order.original.gone page cell owner leans.page leans.stamp leans.unlinked)
      (lean-seen at owner page seen stamps sees (HasTaken leans.stamp) leans.page leans.shown)
      (ap (λ (s : Stamps). s.born cell) sees.edited_page.stamps)

  pub clears-allowed : AllowsClear seen page cell
  clears-allowed = go g.row where
    go : IsClearing at page cell → AllowsClear seen page cell
    go (IsClearing.backout old there is dead alone) = AllowsClear.lone (record { old = old; stands = stands old there; top = is; uncommitted = dead_fails old.number dead (is_committed_in seen old.number) refl; alone = alone })
    go (IsClearing.deleted old there is settled) = AllowsClear.deleted (record { old = old; stands = stands old there; deletion = is; committed = committed-seen at owner page seen stamps sees order.numbered.grow old.number settled.committed })
    go (IsClearing.unreached old there is none) = AllowsClear.unnamed (record { old = old; stands = stands old there; value = is; unnamed = unreached old there is })

  pub clears-unnamed : IsUnnamed seen page cell
  clears-unnamed = go clears-allowed where
    sound : IsSound seen
    sound = seen-sound at owner page seen stamps sees order.upheld

    go : AllowsClear seen page cell → IsUnnamed seen page cell
    go (AllowsClear.lone lone) = record { old = lone.old; stands = lone.stands; unnamed = unlinked sound page cell lone.old lone.stands (back_of_top lone.old.flag lone.top) }
    go (AllowsClear.deleted row) = record { old = row.old; stands = row.stands; unnamed = unlinked sound page cell row.old row.stands (ap is_back row.deletion) }
    go (AllowsClear.unnamed value) = record { old = value.old; stands = value.stands; unnamed = value.unnamed }
