-- Where a settled top stands after an edit of a cell, one stood before it; so the file names its page.
use Rattle.std.proofs.Common.{◌≡◌, ◌≢◌, ◌∙◌, ◌⊎◌, inl, inr, ℕ, true, false, Option, Some, sym, ap, subst, slice_get}
use Rattle.std.specs.Prelude.{◌/◌, ◌%◌, option_and_then}
use Rattle.fbc_kinds.specs.declared.edits.Edit.TheVariants.{PutCell}
use Rattle.fbc_kinds.specs.declared.pages.Cell.{Cell}
use Rattle.fbc_kinds.specs.declared.pages.Header.{Header}
use Rattle.fbc_kinds.specs.declared.pages.Relation.{Relation}
use Rattle.fbc_kinds.specs.declared.shapes.Shape.{Shape}
use Rattle.fbc_kinds.specs.Limits.{slots}
use Rattle.fbc_kinds.specs.View.{View, cell_at, is_top, unless_zero}
use Rattle.fbc_page_edits.proofs.SameNames.{HaveSameNames}
use Rattle.fbc_legal.specs.Guards.{GuardOfEdit}
use Rattle.fbc_legal.specs.Rows.{IsPut, IsFirstVersion, IsNewVersion, IsOwnChange}
use Rattle.fbc_legal.specs.Scene.{Scene, newest_at}
use Rattle.fbc_numbers.specs.Numbers.{IsNumbered, IsSnapshotNumber, is_committed_in}
use Rattle.fbc_version_edits.specs.Differences.{IsPlace}
use Rattle.fbc_version_edits.proofs.OneCell.{IsOneCell, here_or_not, is_new, old_stands}
use Rattle.fbc_origins.proofs.PutPages.{every_draft, newest-closed, newest-view}
use Rattle.fbc_origins.specs.Rows.{IsSettledTop, NamesRow}

-- A settled top that stands in the cell in the newest pages.
pub record HasSettledTop (at : Scene) (page cell : ℕ) : Type 0 where
  pub old : Cell
  pub stands : cell_at (newest_at at) page cell ≡ Some old
  pub settled : IsSettledTop at old

module _ (at : Scene) (n : IsNumbered at) (owner page cell : ℕ) (content : Cell) (g : GuardOfEdit at owner page (PutCell cell content)) where
  -- What is committed in the file is committed in the newest pages.
  kept_newest : (number : ℕ) → is_committed_in at.world.kept number ≡ true → is_committed_in (newest_at at) number ≡ true
  kept_newest number is =
      subst (λ (v : View). is_committed_in v number ≡ true) (newest-view at.world)
      (n.grow (λ p. false) (every_draft at.world) number (record { drafted = λ p its. absurd cc; closed = λ high low path there its. absurd cc }) (newest-closed at.world) (λ p its. absurd cc) is)

  first-settled : IsFirstVersion at owner page cell content → IsSettledTop at content → HasSettledTop at page cell
  first-settled f (first, inl linked) = absurd (linked f.alone)
  first-settled f (first, inr committed) =
      absurd (let yes : is_committed_in (newest_at at) f.t.number ≡ true = kept_newest f.t.number (ap (is_committed_in at.world.kept) (sym f.own) ∙ committed) in
      let no = n.uncommitted owner f.t f.open_is g.unmarked in cc)

  own-settled : IsOwnChange at owner page cell content → IsSettledTop at content → HasSettledTop at page cell
  own-settled f settled = record { old = f.old; stands = f.stands; settled = (ap is_top f.over, go settled.1) } where
    go : (content.back_page ≢ 0) ⊎ (is_committed_in at.world.kept content.number ≡ true) → (f.old.back_page ≢ 0) ⊎ (is_committed_in at.world.kept f.old.number ≡ true)
    go (inl linked) = inl (λ none. linked (f.link.page ∙ none))
    go (inr committed) = inr (ap (is_committed_in at.world.kept) (f.over_own ∙ sym f.own) ∙ committed)

  over-settled : IsNewVersion at owner page cell content → HasSettledTop at page cell
  over-settled f = record { old = f.old; stands = f.stands; settled = (ap is_top f.over, inr (go (n.snapshots owner f.t f.old.number f.open_is f.held))) } where
    go : IsSnapshotNumber at.world f.t f.old.number → is_committed_in at.world.kept f.old.number ≡ true
    go (inl same) = absurd (f.over_other same)
    go (inr held) = held.0

  pub put-settled : IsPut at owner page cell content → IsSettledTop at content → HasSettledTop at page cell
  put-settled (IsPut.first f) settled = first-settled f settled
  put-settled (IsPut.over_own f) settled = own-settled f settled
  put-settled (IsPut.over f) settled = over-settled f
  put-settled (IsPut.move f) settled = absurd (let no : false ≡ true = ap (λ (v : Cell). is_top v.flag) (sym f.same) ∙ settled.0 in cc)
  put-settled (IsPut.backout f) settled = record { old = f.old; stands = f.stands; settled = (f.over, inl f.linked) }
  put-settled (IsPut.cut f) settled = record { old = f.old; stands = f.stands; settled = (ap (λ (v : Cell). is_top v.flag) (sym f.same) ∙ settled.0, inr f.settled.committed) }

-- Where a view names a data page in which it shows a settled top, the file names that page by the same pointer page.
abbrev pub IsNamedFrom : Scene → View → Type 0
IsNamedFrom at seen = (relation sequence pointer page cell : ℕ) (top : Cell) → NamesRow at.shape seen relation sequence pointer page → cell_at seen page cell ≡ Some top → IsSettledTop at top
    → NamesRow at.shape at.world.kept relation sequence pointer page

-- Views with the same names name the same rows.
pub names-back : (shape : Shape) (before after : View) → HaveSameNames before after → (relation sequence pointer page : ℕ) → NamesRow shape after relation sequence pointer page → NamesRow shape before relation sequence pointer page
names-back shape before after names relation sequence pointer page row = record {
  pointed = ap (λ (o : Option Header). option_and_then (λ (r : Relation). slice_get r.pointers (sequence / slots shape.size)) (option_and_then (λ (h : Header). slice_get h.relations relation) o)) (sym names.header) ∙ row.pointed;
  named = ap (option_and_then unless_zero) (sym (names.slots pointer (sequence % slots shape.size))) ∙ row.named;
}

-- One cell has another content.
pub one-cell-named : (at : Scene) (seen after : View) (page cell : ℕ) (old new : Cell) → IsOneCell seen after page cell old new → (IsSettledTop at new → IsSettledTop at old) → IsNamedFrom at seen → IsNamedFrom at after
one-cell-named at seen after page cell old new one settles each relation sequence pointer other place first row stands settled = go (here_or_not page cell other place) where
  before : NamesRow at.shape seen relation sequence pointer other
  before = names-back at.shape seen after one.names relation sequence pointer other row

  go : IsPlace page cell other place ⊎ ¬ IsPlace page cell other place → NamesRow at.shape at.world.kept relation sequence pointer other
  go (inr differ) = each relation sequence pointer other place first before (sym (one.others other place differ) ∙ stands) settled
  go (inl at_it) =
      each relation sequence pointer other place old before (old_stands one other place at_it)
      (settles (subst (IsSettledTop at) (is_new one other place first at_it stands) settled))
