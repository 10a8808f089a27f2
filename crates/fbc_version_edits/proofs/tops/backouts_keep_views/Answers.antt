use Rattle.fbc_version_edits.proofs.Frames.{other_chains}
use Rattle.fbc_version_edits.proofs.OneCell.{one_cell_put, state_same}
use Rattle.fbc_version_edits.proofs.SoundCells.{pages_stay}
use Rattle.fbc_version_edits.proofs.TakenBack.{taken_chain, taken_loses, taken_lost, taken_other_links, taken_own_link, taken_sound, taken_unlinked}
use Rattle.fbc_version_edits.proofs.tops.backouts_keep_views.Goals as goal

pub returns : goal.returns
returns c shape view number cell new content put backout =
    record {
      sound = taken_sound put.sound backout (one_cell_put put backout.stands);
      is = λ relation row at. taken_chain put.sound backout (one_cell_put put backout.stands) relation row at;
      others = other_chains (one_cell_put put backout.stands) (taken_unlinked put.sound backout (one_cell_put put backout.stands));
      states = state_same (one_cell_put put backout.stands);
      other_links = taken_other_links put.sound backout (one_cell_put put backout.stands);
      own_link = λ relation back_page back_cell link. taken_own_link put.sound backout (one_cell_put put backout.stands) relation back_page back_cell link;
      lost = λ relation sequence named. taken_loses put.sound backout (one_cell_put put backout.stands) relation sequence named;
      pages = pages_stay (one_cell_put put backout.stands);
      cells = taken_lost put.sound backout (one_cell_put put backout.stands);
    }
