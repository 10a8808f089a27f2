-- What is below a settled version may go, and so may a settled deletion: nobody that looks sees a difference.
use Rattle.std.proofs.Common.{◌≡◌, ◌∙◌, ◌<◌, ◌≤◌, ◌++◌, true, List, [], ◌∷◌, sym, ap, subst, filter, if◌then◌else◌}
use Rattle.std.specs.Prelude.{None}
use Rattle.fbc_kinds.specs.declared.snapshots.Transaction.{Transaction}
use Rattle.fbc_kinds.specs.Chain.{Version}
use Rattle.fbc_kinds.specs.Machine.{Machine, committed_numbers, is_held, newest}
use Rattle.fbc_kinds.specs.Meaning.{IsSameNewest, meaning_with, transactions_up_to}
use Rattle.fbc_kinds.specs.View.{View, next_of}
use Rattle.fbc_kinds.proofs.Meanings.{is_standing}
use Rattle.fbc_page_edits.proofs.SameMeaning.{same_newest}
use Rattle.fbc_version_edits.specs.Open.{AreOpen, IsSettled}
use Rattle.fbc_version_edits.proofs.Living.{committed_held, held_by_open}
use Rattle.fbc_version_edits.proofs.SeenAlike.{SeenAlike, seen_itself}
use Rattle.fbc_version_edits.proofs.Sights.{filter_cut, newest_before, see_before, see_first}
use Rattle.fbc_version_edits.proofs.Standing.{committed_stands}

module _ (living : List Transaction) (view : View) (b : Machine) where
  -- Rows with the same versions are seen alike.
  pub same_seen : (before after : List Version) → after ≡ before → SeenAlike living (meaning_with living view) b before after
  same_seen before after same = subst (SeenAlike living (meaning_with living view) b before) (sym same) (seen_itself living (meaning_with living view) b before)

  module _ (version : Version) (above : 0 < version.number) (within : version.number ≤ next_of view) (settled : IsSettled view living version.number) where
    -- The committed ones hold its number.
    committed_hold : is_held (committed_numbers (transactions_up_to view living (next_of view))) version.number ≡ true
    committed_hold = committed_held view living version.number above within settled.closed settled.committed

    pub cut_seen : (newer older : List Version) → SeenAlike living (meaning_with living view) b (newer ++ version ∷ older) (newer ++ version ∷ [])
    cut_seen newer older = record {
      by_open = λ t lives. see_before (is_held t.snapshot) newer version older (settled.held t lives);
      by_committed = see_before (is_held (committed_numbers (transactions_up_to view living (next_of view)))) newer version older committed_hold;
      of_newest = subst (IsSameNewest (meaning_with living view) b (newest (newer ++ version ∷ older))) (newest_before newer version older) (same_newest (meaning_with living view) b (newest (newer ++ version ∷ older)));
    }

    pub deletion_seen : (older : List Version) → version.value ≡ None → SeenAlike living (meaning_with living view) b (version ∷ older) []
    deletion_seen older none = record {
      by_open = λ t lives. see_first (is_held t.snapshot) version older (settled.held t lives) ∙ none;
      by_committed = see_first (is_held (committed_numbers (transactions_up_to view living (next_of view)))) version older committed_hold ∙ none;
      of_newest = record { deletion = none; held = held_by_open view living version.number (next_of view) settled.held };
    }

    -- The same of the versions that stand.
    pub standing_cut_seen : AreOpen living → (newer older : List Version)
        → SeenAlike living (meaning_with living view) b (filter (is_standing view living) (newer ++ version ∷ older)) (filter (is_standing view living) (newer ++ version ∷ []))
    standing_cut_seen open_ones newer older =
        let stands = committed_stands view living open_ones version settled.committed in
        let P : List Version → Type 0 = λ versions. SeenAlike living (meaning_with living view) b versions (filter (is_standing view living) (newer ++ version ∷ [])) in
        let Q : List Version → Type 0 = λ versions. SeenAlike living (meaning_with living view) b (filter (is_standing view living) newer ++ version ∷ filter (is_standing view living) older) versions in
        subst P (sym (filter_cut (is_standing view living) newer version older stands))
        (subst Q (sym (filter_cut (is_standing view living) newer version [] stands)) (cut_seen (filter (is_standing view living) newer) (filter (is_standing view living) older)))

    pub standing_deletion_seen : AreOpen living → (older : List Version) → version.value ≡ None → SeenAlike living (meaning_with living view) b (filter (is_standing view living) (version ∷ older)) []
    standing_deletion_seen open_ones older none =
        let P : List Version → Type 0 = λ versions. SeenAlike living (meaning_with living view) b versions [] in
        subst P (sym (ap (λ s. if s then version ∷ filter (is_standing view living) older else filter (is_standing view living) older) (committed_stands view living open_ones version settled.committed)))
        (deletion_seen (filter (is_standing view living) older) none)
