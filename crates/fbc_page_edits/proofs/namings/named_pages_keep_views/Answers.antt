use Rattle.std.proofs.Common.{subst}
use Rattle.fbc_kinds.specs.declared.pages.Page.{Page}
use Rattle.fbc_kinds.specs.Reach.{ReachesPage}
use Rattle.fbc_kinds.specs.Sound.{IsSound}
use Rattle.fbc_page_edits.specs.Alike.{KeepsLostPagesBut, ReadAlike}
use Rattle.fbc_page_edits.specs.Edited.{with_page}
use Rattle.fbc_page_edits.proofs.Fitted.{names_slot}
use Rattle.fbc_page_edits.proofs.NextKept.{slot_next_kept}
use Rattle.fbc_page_edits.proofs.PageNamed.{named_alike, named_lost, named_reached, named_sound, slot_ready}
use Rattle.fbc_page_edits.proofs.SameMeaning.{means_same}
use Rattle.fbc_page_edits.proofs.namings.named_pages_keep_views.Goals as goal

pub returns-clause-sound : goal.returns-clause-sound
returns-clause-sound c = λ shape view number slot page content is.
    let made = names_slot shape slot page (view number) content is.fits in
    let P : Page → Type 0 = λ after. IsSound (with_page view number after) in
    let ready = slot_ready shape view number slot page made.pointer made.stands is.allowed in
    subst P made.made (named_sound shape view number slot page made.pointer is.of_shape is.sound made.stands made.within ready.0 ready.1)

pub returns-clause-alike : goal.returns-clause-alike
returns-clause-alike c = λ shape view number slot page content is.
    let made = names_slot shape slot page (view number) content is.fits in
    let P : Page → Type 0 = λ after. ReadAlike view (with_page view number after) in
    let ready = slot_ready shape view number slot page made.pointer made.stands is.allowed in
    subst P made.made (named_alike shape view number slot page made.pointer is.of_shape is.sound made.stands made.within ready.0 ready.1)

pub returns-clause-reached : goal.returns-clause-reached
returns-clause-reached c = λ shape view number slot page content is reached.
    let made = names_slot shape slot page (view number) content is.fits in
    let P : Page → Type 0 = λ after. ReachesPage (with_page view number after) page in
    let ready = slot_ready shape view number slot page made.pointer made.stands is.allowed in
    subst P made.made (named_reached shape view number slot page made.pointer is.of_shape is.sound made.stands made.within ready.0 ready.1 reached)

pub returns-clause-lost : goal.returns-clause-lost
returns-clause-lost c = λ shape view number slot page content is.
    let made = names_slot shape slot page (view number) content is.fits in
    let P : Page → Type 0 = λ after. KeepsLostPagesBut page view (with_page view number after) in
    let ready = slot_ready shape view number slot page made.pointer made.stands is.allowed in
    subst P made.made (named_lost shape view number slot page made.pointer is.of_shape is.sound made.stands made.within ready.0 ready.1)

pub returns-clause-meaning : goal.returns-clause-meaning
returns-clause-meaning c = λ shape view number slot page content is living.
    let made = names_slot shape slot page (view number) content is.fits in
    let alike = returns-clause-alike c shape view number slot page content is in
    means_same living view (with_page view number content) alike.states alike.chains (slot_next_kept view number content slot page made)
