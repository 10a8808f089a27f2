use Rattle.std.proofs.Common.{◌∙◌, ◌∷◌, refl, sym, ap}
use Rattle.fbc_kinds.specs.Chain.{version_of}
use Rattle.fbc_kinds.specs.DataSpelling.{empty_cell}
use Rattle.fbc_page_edits.specs.Edited.{with_page}
use Rattle.fbc_version_edits.proofs.Flags.{back_of_top, unlinked}
use Rattle.fbc_version_edits.proofs.Frames.{chain_of_lone, chain_of_none, other_chains, row_after_stands, row_before_stands}
use Rattle.fbc_version_edits.proofs.OneCell.{next_same, one_cell_cleared, state_same}
use Rattle.fbc_meanings.proofs.RowsGone.{gone_row}
use Rattle.fbc_meanings.proofs.RowsKept.{one_row, rows_read}
use Rattle.fbc_meanings.proofs.clears.cleared_versions_are_not_read.Goals as goal

pub returns : goal.returns
returns c shape view number cell content living m clear lone closed differ reads =
    let after = with_page view number content in
    let one = one_cell_cleared clear lone.stands in
    let none = unlinked clear.sound number cell lone.old lone.stands (back_of_top lone.old.flag lone.top) in
    rows_read shape living view after clear.of_shape clear.sound (state_same one) (next_same one)
    (one_row shape living view after clear.of_shape clear.sound number cell (other_chains one none)
    (λ relation row at.
    gone_row shape living view after clear.of_shape clear.sound relation row (version_of lone.old) closed lone.uncommitted
    (chain_of_lone view relation row lone.old (row_before_stands one relation row at) lone.top lone.alone
    ∙ ap (λ rest. version_of lone.old ∷ rest) (sym (chain_of_none after relation row empty_cell (row_after_stands one relation row at) refl)))))
    m differ reads
