-- What becomes of a row's newest version where a version comes or goes that does not count, and where a settled one loses what
-- is below it.
use Rattle.std.proofs.Common.{◌≡◌, ◌∙◌, ℕ, true, false, List, [], ◌∷◌, refl, sym, ap, subst, filter}
use Rattle.std.specs.Prelude.{Some, None}
use Rattle.std.proofs.lemmas.List.Elements.{All-head}
use Rattle.fbc_kinds.specs.declared.shapes.Shape.{Shape}
use Rattle.fbc_kinds.specs.declared.snapshots.Transaction.{Transaction}
use Rattle.fbc_kinds.specs.Chain.{Version, chain, state_of}
use Rattle.fbc_kinds.specs.Machine.{newest}
use Rattle.fbc_kinds.specs.Meaning.{transactions_up_to}
use Rattle.fbc_kinds.specs.Sound.{IsSound}
use Rattle.fbc_kinds.specs.View.{View, is_committed_state, next_of}
use Rattle.fbc_kinds.proofs.Meanings.{is_standing}
use Rattle.fbc_page_edits.specs.Alike.{IsCutBelow}
use Rattle.fbc_page_edits.specs.Edited.{IsOfShape}
use Rattle.fbc_version_edits.specs.Differences.{BeginsWith, HasOtherTop, IsLeftAlone}
use Rattle.fbc_version_edits.specs.Open.{AreOpen, IsClosed, IsSettled}
use Rattle.fbc_version_edits.proofs.ChainNumbers.{AreBegun, IsBegun, chain_begun}
use Rattle.fbc_version_edits.proofs.GoneVersions.{alone_meant, cut_meant, deletion_meant, rolled_back_meant}
use Rattle.fbc_version_edits.proofs.Living.{committed_held, held_by_open}
use Rattle.fbc_version_edits.proofs.RolledBackVersions.{came_meant, replaced_meant}
use Rattle.fbc_version_edits.proofs.Sights.{filter_cut, newest_before}
use Rattle.fbc_version_edits.proofs.Standing.{committed_stands, rolled_back_falls}
use Rattle.fbc_runs.specs.Reading.{IsNewestOrLacks, IsSettledDeletion}
use Rattle.fbc_meanings.proofs.RowsKept.{IsKeptRow, newest_kept, newest_standing}

module _ (shape : Shape) (living : List Transaction) (view after : View) (of_shape : IsOfShape shape view) (sound : IsSound view) (relation row : ℕ) where
  abbrev Kept : Type 0
  Kept = IsKeptRow shape living view after of_shape sound relation row

  abbrev stands : List Version → List Version
  stands = filter (is_standing view living)

  -- A version that is rolled back does not stand in front of others, and a committed one does.
  falls : (version : Version) (older : List Version) → IsClosed living version.number → is_committed_state (state_of view version.number) ≡ false → stands (version ∷ older) ≡ stands older
  falls version older closed fails = rw (rolled_back_falls view living version closed fails) refl

  first : AreOpen living → (version : Version) (older : List Version) → is_committed_state (state_of view version.number) ≡ true → newest (stands (version ∷ older)) ≡ Some version
  first open_ones version older committed = rw (committed_stands view living open_ones version committed) refl

  -- A version that is rolled back comes.
  pub came_row : (version : Version) → IsClosed living version.number → is_committed_state (state_of view version.number) ≡ false → IsBegun view version
      → chain after relation row ≡ version ∷ chain view relation row → Kept
  came_row version closed fails is whole =
      newest_kept shape living view after of_shape sound relation row
      (came_meant shape living view after of_shape sound relation row version closed fails is whole)
      (ap newest (ap stands whole ∙ falls version (chain view relation row) closed fails))

  -- It takes the place of one of the same number.
  pub replaced_row : (old new : Version) → IsClosed living new.number → is_committed_state (state_of view new.number) ≡ false → new.number ≡ old.number
      → HasOtherTop old new (chain view relation row) (chain after relation row) → Kept
  replaced_row old new closed fails same top =
      newest_kept shape living view after of_shape sound relation row
      (replaced_meant shape living view after of_shape sound relation row old new closed fails same top)
      (ap newest
      (ap stands top.is
      ∙ falls new top.older closed fails
      ∙ sym (ap stands top.was ∙ falls old top.older (subst (IsClosed living) same closed) (subst (λ n. is_committed_state (state_of view n) ≡ false) same fails))))

  -- It goes.
  pub gone_row : (version : Version) → IsClosed living version.number → is_committed_state (state_of view version.number) ≡ false → chain view relation row ≡ version ∷ chain after relation row → Kept
  gone_row version closed fails whole =
      newest_kept shape living view after of_shape sound relation row
      (rolled_back_meant shape living view after of_shape sound relation row version closed fails whole)
      (sym (ap newest (ap stands whole ∙ falls version (chain after relation row) closed fails)))

  -- It goes, and the next one, which is settled, stands alone.
  pub alone_row : AreOpen living → (old new : Version) → IsClosed living old.number → is_committed_state (state_of view old.number) ≡ false → IsSettled view living new.number
      → IsLeftAlone old new (chain view relation row) (chain after relation row) → Kept
  alone_row open_ones old new closed fails settled alone =
      newest_kept shape living view after of_shape sound relation row
      (alone_meant shape living view after of_shape sound relation row open_ones old new closed fails settled alone)
      (ap newest (ap stands alone.left)
      ∙ first open_ones new [] settled.committed
      ∙ sym (ap newest (ap stands alone.whole ∙ falls old (new ∷ alone.older) closed fails) ∙ first open_ones new alone.older settled.committed))

  -- What is below a settled version is cut off.
  pub cut_row : AreOpen living → (version : Version) → IsSettled view living version.number → IsCutBelow version (chain view relation row) (chain after relation row) → Kept
  cut_row open_ones version settled cut =
      let passes = committed_stands view living open_ones version settled.committed in
      newest_kept shape living view after of_shape sound relation row
      (cut_meant shape living view after of_shape sound relation row open_ones version settled cut)
      (ap newest (ap stands cut.left ∙ filter_cut (is_standing view living) cut.newer version [] passes)
      ∙ sym (newest_before (stands cut.newer) version (stands cut.older))
      ∙ sym (ap newest (ap stands cut.whole ∙ filter_cut (is_standing view living) cut.newer version cut.older passes)))

  -- A settled deletion goes with all below it.
  pub deleted_row : AreOpen living → (version : Version) → version.value ≡ None → IsSettled view living version.number → BeginsWith version (chain view relation row) → chain after relation row ≡ [] → Kept
  deleted_row open_ones version none settled whole gone =
      let last : IsBegun view version = All-head (IsBegun view) version whole.older (subst (AreBegun view) whole.whole (chain_begun shape view of_shape sound relation row)) in
      let deletion : IsSettledDeletion (transactions_up_to view living (next_of view)) version = record {
        deletion = none;
        committed = committed_held view living version.number last.0 last.1 settled.closed settled.committed;
        held = held_by_open view living version.number (next_of view) settled.held;
      } in
      record {
        meant = deletion_meant shape living view after of_shape sound relation row open_ones version none settled whole gone;
        lacks =
            subst (λ o. IsNewestOrLacks (transactions_up_to view living (next_of view)) o (newest_standing shape living view after of_shape sound view relation row)) (sym (ap newest (ap stands gone)))
            (subst (IsNewestOrLacks (transactions_up_to view living (next_of view)) None) (sym (ap newest (ap stands whole.whole) ∙ first open_ones version whole.older settled.committed)) deletion);
      }
