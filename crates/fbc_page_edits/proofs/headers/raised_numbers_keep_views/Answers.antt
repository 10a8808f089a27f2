use Rattle.fbc_kinds.specs.Sound.{IsSound}
use Rattle.fbc_page_edits.specs.Alike.{KeepsLostPages, ReadAlike}
use Rattle.fbc_page_edits.proofs.Fitted.{raises_next}
use Rattle.fbc_page_edits.proofs.HeaderCases.{header_cases}
use Rattle.fbc_page_edits.proofs.NextRaised.{raised_alike, raised_lost, raised_sound}
use Rattle.fbc_page_edits.proofs.OffReach.{off_reach_alike, off_reach_lost, off_reach_sound}
use Rattle.fbc_page_edits.proofs.headers.raised_numbers_keep_views.Goals as goal

pub returns : goal.returns
returns c = λ shape view number next content is.
    let made = raises_next shape next (view number) content is.fits in
    record {
      sound =
          header_cases IsSound view number content made.header _ is.sound made.changes
          (λ stands. raised_sound view made.header next is.sound stands is.allowed)
          (λ off. off_reach_sound view number content off is.sound);
      alike =
          header_cases (ReadAlike view) view number content made.header _ is.sound made.changes
          (λ stands. raised_alike view made.header next is.sound stands)
          (λ off. off_reach_alike view number content off is.sound);
      lost =
          header_cases (KeepsLostPages view) view number content made.header _ is.sound made.changes
          (λ stands. raised_lost view made.header next is.sound stands)
          (λ off. off_reach_lost view number content off);
    }
