-- A transaction that begins holds every number that is committed in the file.
use Rattle.std.proofs.Common.{◌≡◌, ◌≤◌, ◌<◌, ◌∙◌, ◌==◌, ◌/◌, ℕ, zero, suc, [], true, false, Option, Some, None, slice_get, refl, sym, ap, subst, arith}
use Rattle.std.proofs.Math.Nat.{zero-div, zero-mod}
use Rattle.std.proofs.lemmas.Bool.{or_right}
use Rattle.fbc_kinds.specs.declared.pages.Page.{Page}
use Rattle.fbc_kinds.specs.declared.pages.Page.TheVariants as kind
use Rattle.fbc_kinds.specs.declared.pages.State.TheVariants.{Active}
use Rattle.fbc_kinds.specs.declared.shapes.Shape.{Shape}
use Rattle.fbc_kinds.specs.Limits.{tip_numbers}
use Rattle.fbc_kinds.specs.Machine.{begun, is_held}
use Rattle.fbc_kinds.specs.Meaning.{meaning_of}
use Rattle.fbc_kinds.specs.Reach.{TipRole, shows_role}
use Rattle.fbc_kinds.specs.Sound.{IsSound}
use Rattle.fbc_kinds.specs.View.{View, is_committed_state, next_of, size_of, tip_of}
use Rattle.fbc_version_edits.proofs.Living.{committed_held}
use Rattle.fbc_page_edits.specs.Edited.{IsOfShape}
use Rattle.fbc_world.specs.World.{newest_of}
use Rattle.fbc_legal.specs.Scene.{Scene}
use Rattle.fbc_legal.proofs.Exclusion.{both_of, same_number}
use Rattle.fbc_closed_cuts.specs.Upheld.{IsUpheld}
use Rattle.fbc_numbers.specs.Numbers.{CommitsGrow, is_committed_in}
use Rattle.fbc_numbers.proofs.CutFacts.{all-closed, all-view, all_drafts, kept-committed}
use Rattle.fbc_numbers.proofs.PageStates.{state_at}
use Rattle.fbc_numbers.proofs.StatesNamed.{committed-begun}
use Rattle.fbc_origins.proofs.PutPages.{newest-shape, newest-sound}

module _ (shape : Shape) (seen : View) (of_shape : IsOfShape shape seen) (sound : IsSound seen) where
  -- The first transaction inventory page shows number 0 as active.
  zero_shown : (page : ℕ) (found : Option Page) → seen page ≡ found → shows_role (TipRole 0) page found ≡ true → is_committed_state (state_at seen 0 (Some page)) ≡ false
  zero_shown page (Some (kind.Tip t)) is shown =
      let first : t.sequence ≡ 0 = same_number t.sequence 0 (both_of (t.page == page) (t.sequence == 0) shown).1 in
      let active : slice_get t.states 0 ≡ Some Active = (of_shape.within page (kind.Tip t) is).zero first in
      rw (is, active) refl
  zero_shown page None is shown = absurd cc
  zero_shown page (Some _) is shown = absurd cc

  zero_named : (found : Option ℕ) → tip_of seen 0 ≡ found → is_committed_state (state_at seen 0 found) ≡ false
  zero_named None named = refl
  zero_named (Some page) named = zero_shown page (seen page) refl (sound.fitting (TipRole 0) page named)

  zero_uncommitted : is_committed_in seen 0 ≡ false
  zero_uncommitted =
      ap (λ n. is_committed_state (state_at seen n (tip_of seen (0 / tip_numbers (size_of seen))))) (zero-mod (tip_numbers (size_of seen)))
      ∙ ap (λ n. is_committed_state (state_at seen 0 (tip_of seen n))) (zero-div (tip_numbers (size_of seen)))
      ∙ zero_named (tip_of seen 0) refl

  -- A number that is committed is above 0.
  committed_above : (number : ℕ) → is_committed_in seen number ≡ true → 0 < number
  committed_above zero is = absurd (let both : true ≡ false = sym is ∙ zero_uncommitted in cc)
  committed_above (suc number) is = grind (arith)

module _ (at : Scene) (u : IsUpheld at) (grow : CommitsGrow at.world) (number : ℕ) (is : is_committed_in at.world.kept number ≡ true) where
  abbrev seen : View
  seen = newest_of at.world

  newest : is_committed_in seen number ≡ true
  newest = subst (λ (v : View). is_committed_in v number ≡ true) (all-view at.world) (kept-committed at.world grow number (all_drafts at.world) (all-closed at.world) is)

  within : number ≤ next_of seen
  within = let below = committed-begun seen (newest-sound at u) number newest in grind (arith, below)

  pub committed-held : (owner begins : ℕ) → is_held (begun (meaning_of seen) owner begins).snapshot number ≡ true
  committed-held owner begins =
      or_right (begins == number) _
      (committed_held seen [] number (committed_above at.shape seen (newest-shape at u) (newest-sound at u) number newest) within (λ t there same. absurd (grind (arith, there.1))) newest)
