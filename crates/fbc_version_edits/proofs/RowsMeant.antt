-- A view in which one row alone changed means the same where that row is seen alike.
use Rattle.std.proofs.Common.{◌≡◌, ◌⊎◌, ℕ, List, inl, inr, sym, ap, subst, filter}
use Rattle.fbc_kinds.specs.declared.shapes.Shape.{Shape}
use Rattle.fbc_kinds.specs.declared.snapshots.Transaction.{Transaction}
use Rattle.fbc_kinds.specs.Chain.{chain}
use Rattle.fbc_kinds.specs.Meaning.{MeanTheSame, meaning_with}
use Rattle.fbc_kinds.specs.Sound.{IsSound}
use Rattle.fbc_kinds.specs.View.{View, next_of}
use Rattle.fbc_kinds.proofs.Meanings.{is_standing}
use Rattle.fbc_page_edits.specs.Alike.{HaveOtherChains, HaveSameStates}
use Rattle.fbc_page_edits.specs.Edited.{IsOfShape}
use Rattle.fbc_page_edits.specs.Facing.{IsRowAt}
use Rattle.fbc_version_edits.proofs.ChainNumbers.{AreBegun, chain_begun}
use Rattle.fbc_version_edits.proofs.Frames.{row_at_or_not}
use Rattle.fbc_version_edits.proofs.SeenAlike.{SeenAlike}
use Rattle.fbc_version_edits.proofs.Settled.{same_seen}
use Rattle.fbc_version_edits.proofs.Standing.{views_mean_the_same}

module _ (shape : Shape) (living : List Transaction) (view after : View) (of_shape : IsOfShape shape view) (sound : IsSound view) where
  -- The versions of a row that stand are seen alike in both views, and were all begun.
  pub record IsMeant (relation row : ℕ) : Type 0 where
    pub begun : AreBegun view (chain after relation row)
    pub seen : SeenAlike living (meaning_with living view) (meaning_with living after) (filter (is_standing view living) (chain view relation row)) (filter (is_standing view living) (chain after relation row))

  pub same_meant : (relation row : ℕ) → chain after relation row ≡ chain view relation row → IsMeant relation row
  same_meant relation row same = record {
    begun = subst (AreBegun view) (sym same) (chain_begun shape view of_shape sound relation row);
    seen = same_seen living view (meaning_with living after) (filter (is_standing view living) (chain view relation row)) (filter (is_standing view living) (chain after relation row)) (ap (filter (is_standing view living)) same);
  }

  pub rows_meant : HaveSameStates view after → next_of after ≡ next_of view → ((relation row : ℕ) → IsMeant relation row) → MeanTheSame (meaning_with living view) (meaning_with living after)
  rows_meant states next rows =
      views_mean_the_same living view after states next (chain_begun shape view of_shape sound) (λ relation row. (rows relation row).begun) (λ relation row. (rows relation row).seen)

  pub one_row_meant : HaveSameStates view after → next_of after ≡ next_of view → (page cell : ℕ) → HaveOtherChains page cell view after
      → ((relation row : ℕ) → IsRowAt view relation row page cell → IsMeant relation row) → MeanTheSame (meaning_with living view) (meaning_with living after)
  one_row_meant states next page cell others here = rows_meant states next (λ relation row. go relation row (row_at_or_not view relation row page cell))
    where
      go : (relation row : ℕ) → IsRowAt view relation row page cell ⊎ ¬ IsRowAt view relation row page cell → IsMeant relation row
      go relation row (inl at) = here relation row at
      go relation row (inr differ) = same_meant relation row (others relation row differ)
