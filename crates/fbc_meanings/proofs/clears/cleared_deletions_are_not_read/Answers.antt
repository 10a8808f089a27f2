use Rattle.std.proofs.Common.{refl, ap}
use Rattle.fbc_kinds.specs.Chain.{below, value_of, version_of, versions_from}
use Rattle.fbc_kinds.specs.DataSpelling.{empty_cell}
use Rattle.fbc_kinds.specs.View.{is_top}
use Rattle.fbc_page_edits.specs.Edited.{with_page}
use Rattle.fbc_version_edits.proofs.Flags.{back_of_top, unlinked}
use Rattle.fbc_version_edits.proofs.Frames.{chain_of_none, chain_of_top, other_chains, row_after_stands, row_before_stands}
use Rattle.fbc_version_edits.proofs.OneCell.{next_same, one_cell_cleared, state_same}
use Rattle.fbc_meanings.proofs.RowsGone.{deleted_row}
use Rattle.fbc_meanings.proofs.RowsKept.{one_row, rows_read}
use Rattle.fbc_meanings.proofs.clears.cleared_deletions_are_not_read.Goals as goal

pub returns : goal.returns
returns c shape view number cell content living m clear deleted open_ones settled differ reads =
    let after = with_page view number content in
    let one = one_cell_cleared clear deleted.stands in
    let none = unlinked clear.sound number cell deleted.old deleted.stands (back_of_top deleted.old.flag (ap is_top deleted.deletion)) in
    rows_read shape living view after clear.of_shape clear.sound (state_same one) (next_same one)
    (one_row shape living view after clear.of_shape clear.sound number cell (other_chains one none)
    (λ relation row at.
    deleted_row shape living view after clear.of_shape clear.sound relation row open_ones (version_of deleted.old) (ap (λ f. value_of f deleted.old.value) deleted.deletion) settled
    (record {
      older = versions_from view deleted.old.number (below view deleted.old);
      whole = chain_of_top view relation row deleted.old (row_before_stands one relation row at) (ap is_top deleted.deletion);
    })
    (chain_of_none after relation row empty_cell (row_after_stands one relation row at) refl)))
    m differ reads
