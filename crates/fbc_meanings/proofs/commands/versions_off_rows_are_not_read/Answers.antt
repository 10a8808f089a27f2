use Rattle.fbc_page_edits.specs.Edited.{with_page}
use Rattle.fbc_version_edits.proofs.Frames.{other_chains}
use Rattle.fbc_version_edits.proofs.NoLinkForms.{first_unlinked, own_unlinked}
use Rattle.fbc_version_edits.proofs.OneCell.{next_same, one_cell_put, state_same}
use Rattle.fbc_version_edits.proofs.Over.{over_unlinked, own_relation}
use Rattle.fbc_meanings.proofs.SameViews.{same_reads}
use Rattle.fbc_meanings.proofs.commands.versions_off_rows_are_not_read.Goals as goal

pub returns-clause-first : goal.returns-clause-first
returns-clause-first c shape view number cell new content living m put first none reads =
    let one = one_cell_put put first.stands in
    same_reads living view (with_page view number content) m
    (λ relation row. other_chains one (first_unlinked put.sound number cell new first) relation row (none relation row)) (state_same one) (next_same one) reads

pub returns-clause-own : goal.returns-clause-own
returns-clause-own c shape view number cell new content living m put own none reads =
    let one = one_cell_put put own.stands in
    same_reads living view (with_page view number content) m
    (λ relation row. other_chains one (own_unlinked put.sound number cell new own) relation row (none relation row)) (state_same one) (next_same one) reads

pub returns-clause-over : goal.returns-clause-over
returns-clause-over c shape view number cell new content living m put over none reads =
    let one = one_cell_put put over.stands in
    same_reads living view (with_page view number content) m
    (λ relation row. other_chains one (over_unlinked put.sound over one (own_relation put)) relation row (none relation row)) (state_same one) (next_same one) reads
