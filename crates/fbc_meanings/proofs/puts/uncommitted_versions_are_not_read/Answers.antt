use Rattle.std.proofs.Common.{◌∙◌, ◌∷◌, sym, ap, arith}
use Rattle.fbc_kinds.specs.Chain.{version_of}
use Rattle.fbc_kinds.specs.View.{is_top}
use Rattle.fbc_page_edits.specs.Edited.{with_page}
use Rattle.fbc_version_edits.proofs.Changes.{put_above}
use Rattle.fbc_version_edits.proofs.Flags.{top_of_empty}
use Rattle.fbc_version_edits.proofs.Frames.{chain_of_lone, chain_of_none, other_chains, row_after_stands, row_before_stands}
use Rattle.fbc_version_edits.proofs.NoLinkForms.{first_unlinked, own_unlinked}
use Rattle.fbc_version_edits.proofs.OneCell.{next_same, one_cell_put, state_same}
use Rattle.fbc_version_edits.proofs.Over.{over_chain, over_unlinked, own_relation}
use Rattle.fbc_version_edits.proofs.OwnChain.{own_chain}
use Rattle.fbc_meanings.proofs.RowsGone.{came_row, replaced_row}
use Rattle.fbc_meanings.proofs.RowsKept.{one_row, rows_read}
use Rattle.fbc_meanings.proofs.puts.uncommitted_versions_are_not_read.Goals as goal

pub returns-clause-first : goal.returns-clause-first
returns-clause-first c shape view number cell new content living m put first closed fails differ reads =
    let after = with_page view number content in
    let one = one_cell_put put first.stands in
    let begun = first.begun in
    rows_read shape living view after put.of_shape put.sound (state_same one) (next_same one)
    (one_row shape living view after put.of_shape put.sound number cell (other_chains one (first_unlinked put.sound number cell new first))
    (λ relation row at.
    let none = chain_of_none view relation row first.old (row_before_stands one relation row at) (top_of_empty first.old.flag first.over) in
    let lone = chain_of_lone after relation row new (row_after_stands one relation row at) (ap is_top first.value) first.alone in
    came_row shape living view after put.of_shape put.sound relation row (version_of new) closed fails (put_above put, omega (arith, begun))
    (lone ∙ ap (λ rest. version_of new ∷ rest) (sym none))))
    m differ reads

pub returns-clause-own : goal.returns-clause-own
returns-clause-own c shape view number cell new content living m put own closed fails differ reads =
    let after = with_page view number content in
    let one = one_cell_put put own.stands in
    rows_read shape living view after put.of_shape put.sound (state_same one) (next_same one)
    (one_row shape living view after put.of_shape put.sound number cell (other_chains one (own_unlinked put.sound number cell new own))
    (λ relation row at.
    replaced_row shape living view after put.of_shape put.sound relation row (version_of own.old) (version_of new) closed fails own.same_number (own_chain put.sound own one relation row at)))
    m differ reads

pub returns-clause-over : goal.returns-clause-over
returns-clause-over c shape view number cell new content living m put over closed fails differ reads =
    let after = with_page view number content in
    let one = one_cell_put put over.stands in
    let begun = over.begun in
    rows_read shape living view after put.of_shape put.sound (state_same one) (next_same one)
    (one_row shape living view after put.of_shape put.sound number cell (other_chains one (over_unlinked put.sound over one (own_relation put)))
    (λ relation row at.
    came_row shape living view after put.of_shape put.sound relation row (version_of new) closed fails (put_above put, omega (arith, begun))
    (over_chain put.sound over one (own_relation put) relation row at)))
    m differ reads
