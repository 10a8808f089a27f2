use Rattle.std.proofs.Common.{refl}
use Rattle.fbc_kinds.specs.Reach.{ReachesPage}
use Rattle.fbc_kinds.specs.Sound.{IsSound}
use Rattle.fbc_kinds.specs.View.{View}
use Rattle.fbc_page_edits.specs.Alike.{KeepsLostPagesBut, ReadAlike}
use Rattle.fbc_page_edits.specs.Edited.{with_page}
use Rattle.fbc_page_edits.proofs.Fitted.{adds_pointer}
use Rattle.fbc_page_edits.proofs.HeaderCases.{header_cases}
use Rattle.fbc_page_edits.proofs.NextKept.{header_next_kept}
use Rattle.fbc_page_edits.proofs.OffReach.{off_reach_alike, off_reach_lost, off_reach_sound}
use Rattle.fbc_page_edits.proofs.PointerAdded.{added_pointer_alike, added_pointer_lost, added_pointer_reached, added_pointer_sound, entry_ready}
use Rattle.fbc_page_edits.proofs.SameMeaning.{means_same}
use Rattle.fbc_page_edits.proofs.headers.added_pointers_keep_views.Goals as goal

pub returns : goal.returns
returns c = λ shape view number relation page content is.
    let made = adds_pointer shape relation page (view number) content is.fits in
    let alike : ReadAlike view (with_page view number content) =
    header_cases (ReadAlike view) view number content made.header _ is.sound made.changes
    (λ stands. added_pointer_alike shape view made.header relation page made.entry is.sound stands made.entry_is (entry_ready shape view made.header relation page made.entry stands made.entry_is is.allowed))
    (λ off. off_reach_alike view number content off is.sound) in
    record {
      sound =
          header_cases IsSound view number content made.header _ is.sound made.changes
          (λ stands. added_pointer_sound shape view made.header relation page made.entry is.sound stands made.entry_is (entry_ready shape view made.header relation page made.entry stands made.entry_is is.allowed))
          (λ off. off_reach_sound view number content off is.sound);
      alike = alike;
      meaning =
          λ living. means_same living view (with_page view number content) alike.states alike.chains (header_next_kept view number content made.header _ made.changes refl);
      reached =
          λ reached. let P : View → Type 0 = λ v. ReachesPage v page in
          header_cases P view number content made.header _ is.sound made.changes
          (λ stands. added_pointer_reached shape view made.header relation page made.entry is.sound stands made.entry_is (entry_ready shape view made.header relation page made.entry stands made.entry_is is.allowed))
          (λ off. absurd (off reached));
      lost =
          header_cases (KeepsLostPagesBut page view) view number content made.header _ is.sound made.changes
          (λ stands. added_pointer_lost shape view made.header relation page made.entry is.sound stands made.entry_is (entry_ready shape view made.header relation page made.entry stands made.entry_is is.allowed))
          (λ off other differ. off_reach_lost view number content off other);
    }
