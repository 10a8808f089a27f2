use Rattle.fbc_page_edits.specs.Edited.{with_page}
use Rattle.fbc_version_edits.proofs.Flags.{top_of_back, top_of_empty}
use Rattle.fbc_version_edits.proofs.Frames.{same_chains}
use Rattle.fbc_version_edits.proofs.NoLinkForms.{move_unlinked}
use Rattle.fbc_version_edits.proofs.OneCell.{next_same, one_cell_put, state_same}
use Rattle.fbc_meanings.proofs.SameViews.{same_reads}
use Rattle.fbc_meanings.proofs.puts.moves_are_not_read.Goals as goal

pub returns : goal.returns
returns c shape view number cell new content living m put move reads =
    let one = one_cell_put put move.stands in
    same_reads living view (with_page view number content) m
    (same_chains one (move_unlinked put.sound number cell new move) (top_of_empty move.old.flag move.over) (top_of_back new.flag move.value)) (state_same one) (next_same one) reads
