use Rattle.std.proofs.Common.{refl, ap}
use Rattle.fbc_kinds.specs.DataSpelling.{empty_cell}
use Rattle.fbc_kinds.specs.Chain.{below, versions_from}
use Rattle.fbc_kinds.specs.View.{is_top}
use Rattle.fbc_page_edits.specs.Edited.{with_page}
use Rattle.fbc_version_edits.proofs.Flags.{back_of_top, top_stays, unlinked}
use Rattle.fbc_version_edits.proofs.Frames.{chain_of_none, chain_of_top, other_chains, row_after_stands, row_before_stands}
use Rattle.fbc_version_edits.proofs.OneCell.{one_cell_cleared, state_same}
use Rattle.fbc_version_edits.proofs.NoNewLinks.{all_cells_stay, names_none, no_more_links, sound_after}
use Rattle.fbc_version_edits.proofs.SoundCells.{pages_stay}
use Rattle.fbc_version_edits.proofs.NoLinkForms.{no_link_clear}
use Rattle.fbc_version_edits.proofs.clears.cleared_deletions_keep_views.Goals as goal

pub returns : goal.returns
returns c shape view number cell content clear deleted =
    record {
      sound = sound_after clear.sound (one_cell_cleared clear deleted.stands) (no_link_clear clear.sound number cell deleted.old (unlinked clear.sound number cell deleted.old deleted.stands (back_of_top deleted.old.flag (ap is_top deleted.deletion))));
      was = λ relation row at. record {
        older = versions_from view deleted.old.number (below view deleted.old);
        whole = chain_of_top view relation row deleted.old (row_before_stands (one_cell_cleared clear deleted.stands) relation row at) (ap is_top deleted.deletion);
      };
      is = λ relation row at. chain_of_none (with_page view number content) relation row empty_cell (row_after_stands (one_cell_cleared clear deleted.stands) relation row at) refl;
      others = other_chains (one_cell_cleared clear deleted.stands) (unlinked clear.sound number cell deleted.old deleted.stands (back_of_top deleted.old.flag (ap is_top deleted.deletion)));
      states = state_same (one_cell_cleared clear deleted.stands);
      links = no_more_links clear.sound (one_cell_cleared clear deleted.stands) (no_link_clear clear.sound number cell deleted.old (unlinked clear.sound number cell deleted.old deleted.stands (back_of_top deleted.old.flag (ap is_top deleted.deletion))))
          (λ relation back_page back_cell reached names. names_none empty_cell back_page back_cell refl names);
      pages = pages_stay (one_cell_cleared clear deleted.stands);
      cells = all_cells_stay clear.sound (one_cell_cleared clear deleted.stands) (no_link_clear clear.sound number cell deleted.old (unlinked clear.sound number cell deleted.old deleted.stands (back_of_top deleted.old.flag (ap is_top deleted.deletion))))
          (λ lost. absurd (top_stays number cell deleted.old deleted.stands (ap is_top deleted.deletion) lost));
    }
