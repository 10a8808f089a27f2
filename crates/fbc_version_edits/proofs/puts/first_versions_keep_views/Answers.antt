use Rattle.std.proofs.Common.{ap}
use Rattle.fbc_kinds.specs.View.{is_top}
use Rattle.fbc_page_edits.specs.Edited.{with_page}
use Rattle.fbc_version_edits.proofs.Flags.{empty_stays, top_of_empty}
use Rattle.fbc_version_edits.proofs.Frames.{chain_of_lone, chain_of_none, other_chains, row_after_stands, row_before_stands}
use Rattle.fbc_version_edits.proofs.OneCell.{one_cell_put, state_same}
use Rattle.fbc_version_edits.proofs.NoNewLinks.{all_cells_stay, names_none, no_more_links, sound_after}
use Rattle.fbc_version_edits.proofs.SoundCells.{pages_stay}
use Rattle.fbc_version_edits.proofs.NoLinkForms.{first_unlinked, no_link_first}
use Rattle.fbc_version_edits.proofs.puts.first_versions_keep_views.Goals as goal

pub returns : goal.returns
returns c shape view number cell new content put first =
    record {
      sound = sound_after put.sound (one_cell_put put first.stands) (no_link_first put.sound number cell new first);
      was = λ relation row at. chain_of_none view relation row first.old (row_before_stands (one_cell_put put first.stands) relation row at) (top_of_empty first.old.flag first.over);
      is = λ relation row at. chain_of_lone (with_page view number content) relation row new (row_after_stands (one_cell_put put first.stands) relation row at) (ap is_top first.value) first.alone;
      others = other_chains (one_cell_put put first.stands) (first_unlinked put.sound number cell new first);
      states = state_same (one_cell_put put first.stands);
      links = no_more_links put.sound (one_cell_put put first.stands) (no_link_first put.sound number cell new first)
          (λ relation back_page back_cell reached names. names_none new back_page back_cell first.alone names);
      pages = pages_stay (one_cell_put put first.stands);
      cells = all_cells_stay put.sound (one_cell_put put first.stands) (no_link_first put.sound number cell new first)
          (λ lost. absurd (empty_stays number cell first.old first.stands first.over lost));
    }
