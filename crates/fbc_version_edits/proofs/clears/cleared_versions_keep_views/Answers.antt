use Rattle.std.proofs.Common.{refl}
use Rattle.fbc_kinds.specs.DataSpelling.{empty_cell}
use Rattle.fbc_page_edits.specs.Edited.{with_page}
use Rattle.fbc_version_edits.proofs.Flags.{back_of_top, top_stays, unlinked}
use Rattle.fbc_version_edits.proofs.Frames.{chain_of_lone, chain_of_none, other_chains, row_after_stands, row_before_stands}
use Rattle.fbc_version_edits.proofs.OneCell.{one_cell_cleared, state_same}
use Rattle.fbc_version_edits.proofs.NoNewLinks.{all_cells_stay, names_none, no_more_links, sound_after}
use Rattle.fbc_version_edits.proofs.SoundCells.{pages_stay}
use Rattle.fbc_version_edits.proofs.NoLinkForms.{no_link_clear}
use Rattle.fbc_version_edits.proofs.clears.cleared_versions_keep_views.Goals as goal

pub returns : goal.returns
returns c shape view number cell content clear lone =
    record {
      sound = sound_after clear.sound (one_cell_cleared clear lone.stands) (no_link_clear clear.sound number cell lone.old (unlinked clear.sound number cell lone.old lone.stands (back_of_top lone.old.flag lone.top)));
      was = λ relation row at. chain_of_lone view relation row lone.old (row_before_stands (one_cell_cleared clear lone.stands) relation row at) lone.top lone.alone;
      is = λ relation row at. chain_of_none (with_page view number content) relation row empty_cell (row_after_stands (one_cell_cleared clear lone.stands) relation row at) refl;
      others = other_chains (one_cell_cleared clear lone.stands) (unlinked clear.sound number cell lone.old lone.stands (back_of_top lone.old.flag lone.top));
      states = state_same (one_cell_cleared clear lone.stands);
      links = no_more_links clear.sound (one_cell_cleared clear lone.stands) (no_link_clear clear.sound number cell lone.old (unlinked clear.sound number cell lone.old lone.stands (back_of_top lone.old.flag lone.top)))
          (λ relation back_page back_cell reached names. names_none empty_cell back_page back_cell refl names);
      pages = pages_stay (one_cell_cleared clear lone.stands);
      cells = all_cells_stay clear.sound (one_cell_cleared clear lone.stands) (no_link_clear clear.sound number cell lone.old (unlinked clear.sound number cell lone.old lone.stands (back_of_top lone.old.flag lone.top)))
          (λ lost. absurd (top_stays number cell lone.old lone.stands (lone.top) lost));
    }
