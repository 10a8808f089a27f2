use Rattle.std.proofs.Common.{subst}
use Rattle.fbc_kinds.specs.declared.pages.Page.{Page}
use Rattle.fbc_kinds.specs.Reach.{ReachesPage}
use Rattle.fbc_kinds.specs.Sound.{IsSound}
use Rattle.fbc_page_edits.specs.Alike.{KeepsLostPages, ReadAlike}
use Rattle.fbc_page_edits.specs.Edited.{with_page}
use Rattle.fbc_page_edits.proofs.Fitted.{unnames_slot}
use Rattle.fbc_page_edits.proofs.NextKept.{slot_next_kept}
use Rattle.fbc_page_edits.proofs.PageUnnamed.{unnamed_alike, unnamed_lost, unnamed_sound, unnamed_unreached}
use Rattle.fbc_page_edits.proofs.SameMeaning.{means_same}
use Rattle.fbc_page_edits.proofs.namings.unnamed_pages_keep_views.Goals as goal

pub returns-clause-sound : goal.returns-clause-sound
returns-clause-sound c = λ shape view number slot content is.
    let made = unnames_slot shape slot (view number) content is.fits in
    let P : Page → Type 0 = λ after. IsSound (with_page view number after) in
    subst P made.made (unnamed_sound shape view number slot made.pointer is.of_shape is.sound made.stands made.within is.allowed)

pub returns-clause-alike : goal.returns-clause-alike
returns-clause-alike c = λ shape view number slot content is.
    let made = unnames_slot shape slot (view number) content is.fits in
    let P : Page → Type 0 = λ after. ReadAlike view (with_page view number after) in
    subst P made.made (unnamed_alike shape view number slot made.pointer is.of_shape is.sound made.stands made.within is.allowed)

pub returns-clause-unreached : goal.returns-clause-unreached
returns-clause-unreached c = λ shape view number slot page content is reached named.
    let made = unnames_slot shape slot (view number) content is.fits in
    let P : Page → Type 0 = λ after. ¬ ReachesPage (with_page view number after) page in
    subst P made.made (unnamed_unreached shape view number slot made.pointer is.of_shape is.sound made.stands made.within is.allowed page reached named)

pub returns-clause-lost : goal.returns-clause-lost
returns-clause-lost c = λ shape view number slot content is.
    let made = unnames_slot shape slot (view number) content is.fits in
    let P : Page → Type 0 = λ after. KeepsLostPages view (with_page view number after) in
    subst P made.made (unnamed_lost shape view number slot made.pointer is.of_shape is.sound made.stands made.within is.allowed)

pub returns-clause-meaning : goal.returns-clause-meaning
returns-clause-meaning c = λ shape view number slot content is living.
    let made = unnames_slot shape slot (view number) content is.fits in
    let alike = returns-clause-alike c shape view number slot content is in
    means_same living view (with_page view number content) alike.states alike.chains (slot_next_kept view number content slot 0 made)
