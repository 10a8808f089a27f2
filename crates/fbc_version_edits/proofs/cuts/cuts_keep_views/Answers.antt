use Rattle.std.proofs.Common.{◌∙◌, refl, ap}
use Rattle.fbc_kinds.specs.declared.pages.Cell.{Cell}
use Rattle.fbc_kinds.specs.View.{is_empty}
use Rattle.fbc_version_edits.proofs.CutThrough.{cut_through, kept_apart}
use Rattle.fbc_version_edits.proofs.OneCell.{is_new, one_cell_put, state_same}
use Rattle.fbc_version_edits.proofs.NoNewLinks.{all_cells_stay, names_none, no_more_links, sound_after, stays_lost}
use Rattle.fbc_version_edits.proofs.SoundCells.{pages_stay}
use Rattle.fbc_version_edits.proofs.NoLinkForms.{no_link_cut}
use Rattle.fbc_version_edits.proofs.cuts.cuts_keep_views.Goals as goal

pub returns : goal.returns
returns c shape view number cell new content put cut =
    record {
      sound = sound_after put.sound (one_cell_put put cut.stands) (no_link_cut put.sound number cell new cut);
      is = λ relation row through. cut_through put.sound (one_cell_put put cut.stands) cut.same relation row through;
      others = λ relation row apart. kept_apart (one_cell_put put cut.stands) cut.same relation row apart;
      states = state_same (one_cell_put put cut.stands);
      links = no_more_links put.sound (one_cell_put put cut.stands) (no_link_cut put.sound number cell new cut)
          (λ relation back_page back_cell reached names. names_none new back_page back_cell (ap (λ (v : Cell). v.back_page) cut.same) names);
      pages = pages_stay (one_cell_put put cut.stands);
      cells = let no_link = no_link_cut put.sound number cell new cut in
          let one = one_cell_put put cut.stands in
          all_cells_stay put.sound one no_link (stays_lost put.sound one no_link (ap (λ (v : Cell). is_empty v.flag) cut.same));
      gone = λ relation back_page back_cell version link. let same = is_new (one_cell_put put cut.stands) number cell version (refl, refl) link.stands in
          names_none version back_page back_cell (ap (λ (v : Cell). v.back_page) (same ∙ cut.same)) link.names;
    }
