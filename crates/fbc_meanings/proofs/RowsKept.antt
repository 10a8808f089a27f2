-- A view in which each row is seen as before, and lacks a settled deletion at most, still reads as the machine.
use Rattle.std.proofs.Common.{◌≡◌, ◌⊎◌, inl, inr, ℕ, List, refl, sym, ap, subst, filter}
use Rattle.std.specs.Prelude.{Option, Some, None}
use Rattle.fbc_kinds.specs.declared.shapes.Shape.{Shape}
use Rattle.fbc_kinds.specs.declared.snapshots.Transaction.{Transaction}
use Rattle.fbc_kinds.specs.Chain.{Version, chain}
use Rattle.fbc_kinds.specs.Machine.{Machine, newest, standing_versions}
use Rattle.fbc_kinds.specs.Meaning.{meaning_with, transactions_up_to}
use Rattle.fbc_kinds.specs.Sound.{IsSound}
use Rattle.fbc_kinds.specs.View.{View, next_of}
use Rattle.fbc_kinds.proofs.Meanings.{is_standing, standing_versions-meaning_with}
use Rattle.fbc_page_edits.specs.Alike.{HaveOtherChains, HaveSameStates}
use Rattle.fbc_page_edits.specs.Edited.{IsOfShape}
use Rattle.fbc_page_edits.specs.Facing.{IsRowAt}
use Rattle.fbc_version_edits.proofs.ChainNumbers.{chain_begun}
use Rattle.fbc_version_edits.proofs.Frames.{row_at_or_not}
use Rattle.fbc_version_edits.proofs.RowsMeant.{IsMeant, rows_meant, same_meant}
use Rattle.fbc_version_edits.proofs.Standing.{standing_after, transactions_stay}
use Rattle.fbc_runs.specs.Orderly.{OwnersDiffer}
use Rattle.fbc_runs.specs.Reading.{IsNewestOrLacks, ReadsAs}
use Rattle.fbc_runs.proofs.RowReads.{edited_reads}

pub newest_itself : (ts : List Transaction) (o : Option Version) → IsNewestOrLacks ts o o
newest_itself ts None = tt
newest_itself ts (Some version) = refl

module _ (shape : Shape) (living : List Transaction) (view after : View) (of_shape : IsOfShape shape view) (sound : IsSound view) where
  -- The newest version of a chain that stands.
  abbrev pub newest_standing : View → ℕ → ℕ → Option Version
  newest_standing one relation row = newest (filter (is_standing view living) (chain one relation row))

  -- A row is seen as before, and its newest version is the same, or a settled deletion that is gone.
  pub record IsKeptRow (relation row : ℕ) : Type 0 where
    pub meant : IsMeant shape living view after of_shape sound relation row
    pub lacks : IsNewestOrLacks (transactions_up_to view living (next_of view)) (newest_standing after relation row) (newest_standing view relation row)

  pub newest_kept : (relation row : ℕ) → IsMeant shape living view after of_shape sound relation row → newest_standing after relation row ≡ newest_standing view relation row → IsKeptRow relation row
  newest_kept relation row meant same = record {
    meant = meant;
    lacks =
        subst (λ o. IsNewestOrLacks (transactions_up_to view living (next_of view)) o (newest_standing view relation row)) (sym same)
        (newest_itself (transactions_up_to view living (next_of view)) (newest_standing view relation row));
  }

  pub same_row : (relation row : ℕ) → chain after relation row ≡ chain view relation row → IsKeptRow relation row
  same_row relation row same =
      newest_kept relation row (same_meant shape living view after of_shape sound relation row same) (ap (λ (versions : List Version). newest (filter (is_standing view living) versions)) same)

  -- One row alone changed.
  pub one_row : (page cell : ℕ) → HaveOtherChains page cell view after → ((relation row : ℕ) → IsRowAt view relation row page cell → IsKeptRow relation row) → (relation row : ℕ) → IsKeptRow relation row
  one_row page cell others here relation row = go (row_at_or_not view relation row page cell) where
    go : IsRowAt view relation row page cell ⊎ ¬ IsRowAt view relation row page cell → IsKeptRow relation row
    go (inl at) = here relation row at
    go (inr apart) = same_row relation row (others relation row apart)

  module _ (states : HaveSameStates view after) (next : next_of after ≡ next_of view) (rows : (relation row : ℕ) → IsKeptRow relation row) where
    before_is : (relation row : ℕ) → newest (standing_versions (meaning_with living view) relation row) ≡ newest_standing view relation row
    before_is relation row = ap newest (standing_versions-meaning_with view living relation row (chain_begun shape view of_shape sound relation row))

    after_is : (relation row : ℕ) → newest (standing_versions (meaning_with living after) relation row) ≡ newest_standing after relation row
    after_is relation row = ap newest (standing_after living view after states next relation row (rows relation row).meant.begun)

    lacks_after : (relation row : ℕ)
        → IsNewestOrLacks (transactions_up_to view living (next_of view)) (newest (standing_versions (meaning_with living after) relation row)) (newest (standing_versions (meaning_with living view) relation row))
    lacks_after relation row =
        subst (λ o. IsNewestOrLacks (transactions_up_to view living (next_of view)) o (newest (standing_versions (meaning_with living view) relation row))) (sym (after_is relation row))
        (subst (IsNewestOrLacks (transactions_up_to view living (next_of view)) (newest_standing after relation row)) (sym (before_is relation row)) (rows relation row).lacks)

    pub rows_read : (m : Machine) → OwnersDiffer m.transactions → ReadsAs (meaning_with living view) m → ReadsAs (meaning_with living after) m
    rows_read m differ reads =
        edited_reads (meaning_with living view) (meaning_with living after) m reads
        (rows_meant shape living view after of_shape sound states next (λ relation row. (rows relation row).meant))
        (transactions_stay living view after states next) differ lacks_after
