use Rattle.fbc_page_edits.specs.Edited.{with_page}
use Rattle.fbc_page_edits.proofs.OffReach.{off_reach_alike, off_reach_lost, off_reach_next, off_reach_sound}
use Rattle.fbc_page_edits.proofs.SameMeaning.{means_same}
use Rattle.fbc_version_edits.proofs.edits.changes_off_reach_keep_views.Goals as goal

pub returns : goal.returns
returns c view number content sound off =
    let alike = off_reach_alike view number content off sound in
    record {
      sound = off_reach_sound view number content off sound;
      alike = alike;
      pages = off_reach_lost view number content off;
      meaning = λ living. means_same living view (with_page view number content) alike.states alike.chains (off_reach_next view number content off);
    }
