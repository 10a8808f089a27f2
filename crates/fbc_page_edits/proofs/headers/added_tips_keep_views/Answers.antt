use Rattle.std.proofs.Common.{refl}
use Rattle.fbc_kinds.specs.Reach.{ReachesPage}
use Rattle.fbc_kinds.specs.Sound.{IsSound}
use Rattle.fbc_kinds.specs.View.{View}
use Rattle.fbc_page_edits.specs.Alike.{KeepsLostPagesBut, ReadAlike}
use Rattle.fbc_page_edits.specs.Edited.{with_page}
use Rattle.fbc_page_edits.proofs.Fitted.{adds_tip}
use Rattle.fbc_page_edits.proofs.HeaderCases.{header_cases}
use Rattle.fbc_page_edits.proofs.HeaderStands.{header_is}
use Rattle.fbc_page_edits.proofs.NextKept.{header_next_kept}
use Rattle.fbc_page_edits.proofs.OffReach.{off_reach_alike, off_reach_lost, off_reach_sound}
use Rattle.fbc_page_edits.proofs.SameMeaning.{means_same}
use Rattle.fbc_page_edits.proofs.TipAdded.{added_tip_alike, added_tip_lost, added_tip_reached, added_tip_sound}
use Rattle.fbc_page_edits.proofs.headers.added_tips_keep_views.Goals as goal

pub returns : goal.returns
returns c = λ shape view number page content is.
    let made = adds_tip shape page (view number) content is.fits in
    let alike : ReadAlike view (with_page view number content) =
    header_cases (ReadAlike view) view number content made.header _ is.sound made.changes
    (λ stands. added_tip_alike shape view made.header page is.sound stands (rw (header_is view made.header stands) at is.allowed))
    (λ off. off_reach_alike view number content off is.sound) in
    record {
      sound =
          header_cases IsSound view number content made.header _ is.sound made.changes
          (λ stands. added_tip_sound shape view made.header page is.sound stands (rw (header_is view made.header stands) at is.allowed))
          (λ off. off_reach_sound view number content off is.sound);
      alike = alike;
      meaning =
          λ living. means_same living view (with_page view number content) alike.states alike.chains (header_next_kept view number content made.header _ made.changes refl);
      reached =
          λ reached. let P : View → Type 0 = λ v. ReachesPage v page in
          header_cases P view number content made.header _ is.sound made.changes
          (λ stands. added_tip_reached shape view made.header page is.sound stands (rw (header_is view made.header stands) at is.allowed))
          (λ off. absurd (off reached));
      lost =
          header_cases (KeepsLostPagesBut page view) view number content made.header _ is.sound made.changes
          (λ stands. added_tip_lost shape view made.header page is.sound stands (rw (header_is view made.header stands) at is.allowed))
          (λ off other differ. off_reach_lost view number content off other);
    }
