-- What it means that a version comes whose number is rolled back: nothing.
use Rattle.std.proofs.Common.{◌≡◌, ◌∙◌, ◌<◌, ◌≤◌, ℕ, false, List, ◌∷◌, sym, ap, subst, filter, if◌then◌else◌}
use Rattle.std.proofs.lemmas.List.Elements.{All-cons, All-head, All-tail}
use Rattle.fbc_kinds.specs.declared.shapes.Shape.{Shape}
use Rattle.fbc_kinds.specs.declared.snapshots.Transaction.{Transaction}
use Rattle.fbc_kinds.specs.Chain.{Version, chain, state_of}
use Rattle.fbc_kinds.specs.Meaning.{meaning_with}
use Rattle.fbc_kinds.specs.Sound.{IsSound}
use Rattle.fbc_kinds.specs.View.{View, is_committed_state, next_of}
use Rattle.fbc_kinds.proofs.Meanings.{is_standing}
use Rattle.fbc_page_edits.specs.Edited.{IsOfShape}
use Rattle.fbc_version_edits.specs.Differences.{HasOtherTop}
use Rattle.fbc_version_edits.specs.Open.{IsClosed}
use Rattle.fbc_version_edits.proofs.ChainNumbers.{AreBegun, IsBegun, chain_begun}
use Rattle.fbc_version_edits.proofs.RowsMeant.{IsMeant}
use Rattle.fbc_version_edits.proofs.Settled.{same_seen}
use Rattle.fbc_version_edits.proofs.Standing.{rolled_back_falls}

module _ (shape : Shape) (living : List Transaction) (view after : View) (of_shape : IsOfShape shape view) (sound : IsSound view) (relation row : ℕ) where
  abbrev stands : List Version → List Version
  stands = filter (is_standing view living)

  -- It does not stand in front of others.
  falls : (version : Version) (older : List Version) → IsClosed living version.number → is_committed_state (state_of view version.number) ≡ false → stands (version ∷ older) ≡ stands older
  falls version older closed uncommitted = ap (λ b. if b then version ∷ stands older else stands older) (rolled_back_falls view living version closed uncommitted)

  -- It comes in front of the row's chain.
  pub came_meant : (version : Version) → IsClosed living version.number → is_committed_state (state_of view version.number) ≡ false → IsBegun view version
      → chain after relation row ≡ version ∷ chain view relation row → IsMeant shape living view after of_shape sound relation row
  came_meant version closed uncommitted is whole = record {
    begun = subst (AreBegun view) (sym whole) (All-cons (IsBegun view) version (chain view relation row) is (chain_begun shape view of_shape sound relation row));
    seen = same_seen living view (meaning_with living after) (stands (chain view relation row)) (stands (chain after relation row))
        (ap stands whole ∙ falls version (chain view relation row) closed uncommitted);
  }

  -- It comes in place of one of the same number.
  pub replaced_meant : (old new : Version) → IsClosed living new.number → is_committed_state (state_of view new.number) ≡ false → new.number ≡ old.number
      → HasOtherTop old new (chain view relation row) (chain after relation row) → IsMeant shape living view after of_shape sound relation row
  replaced_meant old new closed uncommitted same top =
      let all = subst (AreBegun view) top.was (chain_begun shape view of_shape sound relation row) in
      let first : IsBegun view old = All-head (IsBegun view) old top.older all in
      let is : IsBegun view new = subst (λ n. (0 < n) × (n ≤ next_of view)) (sym same) first in
      record {
        begun = subst (AreBegun view) (sym top.is) (All-cons (IsBegun view) new top.older is (All-tail (IsBegun view) old top.older all));
        seen = same_seen living view (meaning_with living after) (stands (chain view relation row)) (stands (chain after relation row))
            (ap stands top.is
            ∙ falls new top.older closed uncommitted
            ∙ sym (ap stands top.was ∙ falls old top.older (subst (IsClosed living) same closed) (subst (λ n. is_committed_state (state_of view n) ≡ false) same uncommitted)));
      }
