use Rattle.std.proofs.Common.{refl}
use Rattle.fbc_page_edits.specs.Edited.{with_page}
use Rattle.fbc_version_edits.proofs.Flags.{top_of_back}
use Rattle.fbc_version_edits.proofs.Frames.{same_chains}
use Rattle.fbc_version_edits.proofs.OneCell.{next_same, one_cell_cleared, state_same}
use Rattle.fbc_meanings.proofs.SameViews.{same_reads}
use Rattle.fbc_meanings.proofs.clears.cleared_values_are_not_read.Goals as goal

pub returns : goal.returns
returns c shape view number cell content living m clear unnamed reads =
    let one = one_cell_cleared clear unnamed.stands in
    same_reads living view (with_page view number content) m
    (same_chains one unnamed.unnamed (top_of_back unnamed.old.flag unnamed.value) refl) (state_same one) (next_same one) reads
