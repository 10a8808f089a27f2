use Rattle.std.proofs.Common.{refl}
use Rattle.fbc_kinds.specs.DataSpelling.{empty_cell}
use Rattle.fbc_version_edits.proofs.Flags.{empty_stays, top_of_back}
use Rattle.fbc_version_edits.proofs.Frames.{same_chains}
use Rattle.fbc_version_edits.proofs.OneCell.{one_cell_cleared, state_same}
use Rattle.fbc_version_edits.proofs.NoNewLinks.{cells_stay, names_none, no_more_links, sound_after}
use Rattle.fbc_version_edits.proofs.SoundCells.{pages_stay}
use Rattle.fbc_version_edits.proofs.NoLinkForms.{no_link_clear}
use Rattle.fbc_version_edits.proofs.clears.cleared_values_keep_views.Goals as goal

pub returns : goal.returns
returns c shape view number cell content clear unnamed =
    record {
      sound = sound_after clear.sound (one_cell_cleared clear unnamed.stands) (no_link_clear clear.sound number cell unnamed.old (unnamed.unnamed));
      chains = same_chains (one_cell_cleared clear unnamed.stands) unnamed.unnamed (top_of_back unnamed.old.flag unnamed.value) refl;
      states = state_same (one_cell_cleared clear unnamed.stands);
      links = no_more_links clear.sound (one_cell_cleared clear unnamed.stands) (no_link_clear clear.sound number cell unnamed.old (unnamed.unnamed))
          (λ relation back_page back_cell reached names. names_none empty_cell back_page back_cell refl names);
      pages = pages_stay (one_cell_cleared clear unnamed.stands);
      cells = cells_stay clear.sound (one_cell_cleared clear unnamed.stands) (no_link_clear clear.sound number cell unnamed.old (unnamed.unnamed));
      found = λ lost. let one = (one_cell_cleared clear unnamed.stands) in empty_stays number cell empty_cell one.is refl lost;
    }
