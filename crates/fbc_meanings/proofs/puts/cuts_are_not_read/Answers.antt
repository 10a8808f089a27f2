use Rattle.std.proofs.Common.{ℕ, inl, inr}
use Rattle.fbc_kinds.specs.Chain.{chain, version_of}
use Rattle.fbc_page_edits.specs.Edited.{with_page}
use Rattle.fbc_version_edits.proofs.CutChains.{IsSameOrCut, cut_chains}
use Rattle.fbc_version_edits.proofs.OneCell.{next_same, one_cell_put, state_same}
use Rattle.fbc_meanings.proofs.RowsGone.{cut_row}
use Rattle.fbc_meanings.proofs.RowsKept.{IsKeptRow, rows_read, same_row}
use Rattle.fbc_meanings.proofs.puts.cuts_are_not_read.Goals as goal

pub returns : goal.returns
returns c shape view number cell new content living m put cut open_ones settled differ reads =
    let one = one_cell_put put cut.stands in
    rows_read shape living view (with_page view number content) put.of_shape put.sound (state_same one) (next_same one)
    (λ relation row. go relation row (cut_chains one cut.same relation row)) m differ reads
  where
    go : (relation row : ℕ) → IsSameOrCut (version_of new) (chain view relation row) (chain (with_page view number content) relation row)
        → IsKeptRow shape living view (with_page view number content) put.of_shape put.sound relation row
    go relation row (inl same) = same_row shape living view (with_page view number content) put.of_shape put.sound relation row same
    go relation row (inr below) = cut_row shape living view (with_page view number content) put.of_shape put.sound relation row open_ones (version_of new) settled below
