use Rattle.fbc_page_edits.specs.Alike.{ReadAlike}
use Rattle.fbc_page_edits.specs.Edited.{with_page}
use Rattle.fbc_page_edits.proofs.OffReach.{off_reach_alike, off_reach_lost, off_reach_next, off_reach_sound}
use Rattle.fbc_page_edits.proofs.SameMeaning.{means_same}
use Rattle.fbc_page_edits.proofs.inventories.formats_keep_views.Goals as goal

pub returns : goal.returns
returns c = λ shape view number page_kind relation sequence content is.
    let alike : ReadAlike view (with_page view number content) =
    off_reach_alike view number content is.allowed is.sound in
    record {
      sound =
          off_reach_sound view number content is.allowed is.sound;
      alike = alike;
      meaning =
          λ living. means_same living view (with_page view number content) alike.states alike.chains (off_reach_next view number content is.allowed);
      lost =
          off_reach_lost view number content is.allowed;
    }
