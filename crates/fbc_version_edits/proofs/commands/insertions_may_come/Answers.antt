use Rattle.std.proofs.Common.{◌∙◌, ◌<◌, ◌≤◌, sym, ap, arith, subst, filter}
use Rattle.fbc_kinds.specs.Machine.{is_free_row, newest, reply_in}
use Rattle.fbc_kinds.specs.Meaning.{transactions_up_to}
use Rattle.fbc_kinds.specs.View.{next_of}
use Rattle.fbc_kinds.specs.declared.replies.Reply.TheVariants as reply
use Rattle.fbc_kinds.proofs.Meanings.{is_standing, standing_versions-meaning_with}
use Rattle.fbc_version_edits.proofs.Changes.{put_above}
use Rattle.fbc_version_edits.proofs.ChainNumbers.{chain_begun}
use Rattle.fbc_version_edits.proofs.Flags.{top_of_empty}
use Rattle.fbc_version_edits.proofs.Frames.{chain_of_none, row_before_stands}
use Rattle.fbc_version_edits.proofs.Living.{open_transaction_is}
use Rattle.fbc_version_edits.proofs.OneCell.{one_cell_put}
use Rattle.fbc_version_edits.proofs.commands.insertions_may_come.Goals as goal

pub returns : goal.returns
returns c shape view number cell new content put first living t maker relation row at =
    record {
      come =
          let none = chain_of_none view relation row first.old (row_before_stands (one_cell_put put first.stands) relation row at) (top_of_empty first.old.flag first.over) in
          ap (λ versions. is_free_row (transactions_up_to view living (next_of view)) (newest versions))
          (standing_versions-meaning_with view living relation row (chain_begun shape view put.of_shape put.sound relation row) ∙ ap (filter (is_standing view living)) none);
      done =
          let above = subst (λ n. 0 < n) (sym maker.number) (put_above put) in
          let less = first.begun in
          let within : t.number ≤ next_of view = subst (λ n. n ≤ next_of view) (sym maker.number) (omega arith) in
          sym (ap (λ o. reply_in o (λ t. reply.Row row)) (open_transaction_is view living maker.open_ones t maker.lives above within));
    }
