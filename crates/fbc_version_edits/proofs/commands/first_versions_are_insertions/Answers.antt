use Rattle.std.proofs.Common.{◌∙◌, ◌∷◌, List, ℕ, sym, ap, subst, arith}
use Rattle.std.specs.Prelude.{Option}
use Rattle.fbc_kinds.specs.Chain.{value_of, version_of}
use Rattle.fbc_kinds.specs.Machine.{open_place, with_version}
use Rattle.fbc_kinds.specs.Meaning.{MeanTheSame, meaning_with}
use Rattle.fbc_kinds.specs.View.{is_top}
use Rattle.fbc_page_edits.specs.Edited.{with_page}
use Rattle.fbc_version_edits.proofs.Changes.{insertion}
use Rattle.fbc_version_edits.proofs.Flags.{top_of_empty}
use Rattle.fbc_version_edits.proofs.Frames.{chain_of_lone, chain_of_none, other_chains, row_after_stands, row_before_stands}
use Rattle.fbc_version_edits.proofs.OneCell.{next_same, one_cell_put, state_same}
use Rattle.fbc_version_edits.proofs.NoLinkForms.{first_unlinked}
use Rattle.fbc_version_edits.proofs.commands.first_versions_are_insertions.Goals as goal

pub returns : goal.returns
returns c shape view number cell new content put first living t maker relation row at =
    let after = with_page view number content in
    let one = one_cell_put put first.stands in
    let none = chain_of_none view relation row first.old (row_before_stands one relation row at) (top_of_empty first.old.flag first.over) in
    let lone = chain_of_lone after relation row new (row_after_stands one relation row at) (ap is_top first.value) first.alone in
    let within = first.begun in
    let P : Option (List ℕ) → Type 0 =
    λ value. MeanTheSame (with_version (meaning_with living view) (open_place (meaning_with living view) t.owner) relation row value) (meaning_with living after) in
    subst P (ap (λ f. value_of f new.value) first.value)
    (insertion put (state_same one) (next_same one) (other_chains one (first_unlinked put.sound number cell new first)) living t maker relation row at (omega arith)
    (lone ∙ ap (λ rest. version_of new ∷ rest) (sym none)))
