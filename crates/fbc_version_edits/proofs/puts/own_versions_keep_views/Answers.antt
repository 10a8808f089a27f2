use Rattle.std.proofs.Common.{ap}
use Rattle.fbc_kinds.specs.View.{is_top}
use Rattle.fbc_version_edits.proofs.Flags.{top_stays}
use Rattle.fbc_version_edits.proofs.Frames.{other_chains}
use Rattle.fbc_version_edits.proofs.OneCell.{one_cell_put, state_same}
use Rattle.fbc_version_edits.proofs.OwnChain.{own_chain}
use Rattle.fbc_version_edits.proofs.NoNewLinks.{all_cells_stay, other_links, own_links, sound_after}
use Rattle.fbc_version_edits.proofs.SoundCells.{pages_stay}
use Rattle.fbc_version_edits.proofs.NoLinkForms.{own_unlinked, no_link_own}
use Rattle.fbc_version_edits.proofs.puts.own_versions_keep_views.Goals as goal

pub returns : goal.returns
returns c shape view number cell new content put own =
    record {
      sound = sound_after put.sound (one_cell_put put own.stands) (no_link_own put.sound number cell new own);
      is = λ relation row at. own_chain put.sound own (one_cell_put put own.stands) relation row at;
      others = other_chains (one_cell_put put own.stands) (own_unlinked put.sound number cell new own);
      states = state_same (one_cell_put put own.stands);
      other_links = other_links put.sound (one_cell_put put own.stands) (no_link_own put.sound number cell new own);
      own_link = λ relation back_page back_cell link. own_links put.sound (one_cell_put put own.stands) (no_link_own put.sound number cell new own) relation back_page back_cell new link;
      pages = pages_stay (one_cell_put put own.stands);
      cells = all_cells_stay put.sound (one_cell_put put own.stands) (no_link_own put.sound number cell new own)
          (λ lost. absurd (top_stays number cell own.old own.stands (ap is_top own.over) lost));
    }
