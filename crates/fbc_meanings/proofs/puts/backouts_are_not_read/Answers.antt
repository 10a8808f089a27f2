use Rattle.std.proofs.Common.{◌≡◌, ◌⊎◌, ◌∷◌, ℕ, inl, inr}
use Rattle.fbc_kinds.specs.Chain.{chain, version_of}
use Rattle.fbc_page_edits.specs.Edited.{with_page}
use Rattle.fbc_version_edits.specs.Differences.{IsLeftAlone}
use Rattle.fbc_version_edits.proofs.Frames.{other_chains}
use Rattle.fbc_version_edits.proofs.OneCell.{next_same, one_cell_put, state_same}
use Rattle.fbc_version_edits.proofs.TakenBack.{taken_chain, taken_chain_kept, taken_unlinked}
use Rattle.fbc_meanings.proofs.RowsGone.{alone_row, gone_row}
use Rattle.fbc_meanings.proofs.RowsKept.{IsKeptRow, one_row, rows_read}
use Rattle.fbc_meanings.proofs.puts.backouts_are_not_read.Goals as goal

pub returns-clause-whole : goal.returns-clause-whole
returns-clause-whole c shape view number cell new content living m put backout closed names differ reads =
    let after = with_page view number content in
    let one = one_cell_put put backout.stands in
    rows_read shape living view after put.of_shape put.sound (state_same one) (next_same one)
    (one_row shape living view after put.of_shape put.sound number cell (other_chains one (taken_unlinked put.sound backout one))
    (λ relation row at.
    gone_row shape living view after put.of_shape put.sound relation row (version_of backout.old) closed backout.uncommitted
    (taken_chain_kept put.sound backout one relation row at names)))
    m differ reads

pub returns-clause-alone : goal.returns-clause-alone
returns-clause-alone c shape view number cell new content living m put backout open_ones closed settled differ reads =
    let after = with_page view number content in
    let one = one_cell_put put backout.stands in
    rows_read shape living view after put.of_shape put.sound (state_same one) (next_same one)
    (one_row shape living view after put.of_shape put.sound number cell (other_chains one (taken_unlinked put.sound backout one))
    (λ relation row at. go relation row (taken_chain put.sound backout one relation row at)))
    m differ reads
  where
    go : (relation row : ℕ)
        → (chain view relation row ≡ version_of backout.old ∷ chain (with_page view number content) relation row)
        ⊎ IsLeftAlone (version_of backout.old) (version_of new) (chain view relation row) (chain (with_page view number content) relation row)
        → IsKeptRow shape living view (with_page view number content) put.of_shape put.sound relation row
    go relation row (inl whole) =
        gone_row shape living view (with_page view number content) put.of_shape put.sound relation row (version_of backout.old) closed backout.uncommitted whole
    go relation row (inr alone) =
        alone_row shape living view (with_page view number content) put.of_shape put.sound relation row open_ones (version_of backout.old) (version_of new) closed backout.uncommitted settled alone
