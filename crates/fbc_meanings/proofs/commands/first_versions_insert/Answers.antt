use Rattle.std.proofs.Common.{◌≡◌, ◌∙◌, ◌∷◌, ◌≤◌, ◌<◌, List, sym, ap, subst, arith, filter}
use Rattle.std.specs.Prelude.{ℕ, Option}
use Rattle.fbc_kinds.specs.Chain.{chain, value_of, version_of}
use Rattle.fbc_kinds.specs.Machine.{is_free_row, newest, open_place, with_version}
use Rattle.fbc_kinds.specs.Meaning.{meaning_with, transactions_up_to}
use Rattle.fbc_kinds.specs.View.{is_top, next_of}
use Rattle.fbc_kinds.specs.declared.replies.Reply.TheVariants as reply
use Rattle.fbc_kinds.proofs.Meanings.{is_standing, standing_versions-meaning_with}
use Rattle.fbc_runs.specs.Orderly.{OwnersDiffer}
use Rattle.fbc_runs.specs.Reading.{ReadsAs}
use Rattle.fbc_runs.proofs.ChangesCome.{insertion_comes}
use Rattle.fbc_runs.proofs.ChangesRead.{put_reads}
use Rattle.fbc_page_edits.specs.Edited.{with_page}
use Rattle.fbc_version_edits.proofs.ChainNumbers.{chain_begun}
use Rattle.fbc_version_edits.proofs.Changes.{insertion, put_above}
use Rattle.fbc_version_edits.proofs.Flags.{top_of_empty}
use Rattle.fbc_version_edits.proofs.Frames.{chain_of_lone, chain_of_none, other_chains, row_after_stands, row_before_stands}
use Rattle.fbc_version_edits.proofs.InFront.{put_by}
use Rattle.fbc_version_edits.proofs.Living.{open_transaction_is}
use Rattle.fbc_version_edits.proofs.NoLinkForms.{first_unlinked}
use Rattle.fbc_version_edits.proofs.OneCell.{next_same, one_cell_put, state_same}
use Rattle.fbc_meanings.proofs.DoneBeside.{answered_too}
use Rattle.fbc_meanings.proofs.Steps.{step_reads, version_leaves}
use Rattle.fbc_meanings.proofs.commands.first_versions_insert.Goals as goal

pub returns : goal.returns
returns c shape view number cell new content living m t relation row put first maker at differ reads =
    let after = with_page view number content in
    let one = one_cell_put put first.stands in
    let less = first.begun in
    let within : new.number ≤ next_of view = omega (arith, less) in
    let above = subst (λ n. 0 < n) (sym maker.number) (put_above put) in
    let own_within = subst (λ n. n ≤ next_of view) (sym maker.number) within in
    let begun = chain_begun shape view put.of_shape put.sound relation row in
    let none = chain_of_none view relation row first.old (row_before_stands one relation row at) (top_of_empty first.old.flag first.over) in
    let lone = chain_of_lone after relation row new (row_after_stands one relation row at) (ap is_top first.value) first.alone in
    let whole : chain after relation row ≡ version_of new ∷ chain view relation row = lone ∙ ap (λ rest. version_of new ∷ rest) (sym none) in
    let others = other_chains one (first_unlinked put.sound number cell new first) in
    let value = value_of new.flag new.value in
    let P : Option (List ℕ) → Type 0 = λ some. ReadsAs (meaning_with living after) (with_version m (open_place m t.owner) relation row some) in
    record {
      comes =
          insertion_comes (meaning_with living view) m reads differ relation row
          (ap (λ versions. is_free_row (transactions_up_to view living (next_of view)) (newest versions)) (standing_versions-meaning_with view living relation row begun ∙ ap (filter (is_standing view living)) none));
      answered = answered_too (meaning_with living view) m reads t.owner t (open_transaction_is view living maker.open_ones t maker.lives above own_within) (reply.Row row);
      reads =
          subst P (ap (λ f. value_of f new.value) first.value)
          (step_reads put (state_same one) (next_same one) others living t maker relation row at within (chain view relation row) begun whole
          (with_version (meaning_with living view) (open_place (meaning_with living view) t.owner) relation row value) (with_version m (open_place m t.owner) relation row value)
          (put_by living view maker.open_ones t maker.lives above own_within relation row value)
          (insertion put (state_same one) (next_same one) others living t maker relation row at within whole)
          (put_reads (meaning_with living view) m reads t.owner relation row value)
          (subst OwnersDiffer (sym (version_leaves m (open_place m t.owner) relation row value)) differ));
    }
