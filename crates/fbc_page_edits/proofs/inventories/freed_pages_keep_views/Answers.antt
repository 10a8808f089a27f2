use Rattle.std.proofs.Common.{false, subst}
use Rattle.fbc_kinds.specs.declared.pages.Page.{Page}
use Rattle.fbc_kinds.specs.Lost.{IsLostPage}
use Rattle.fbc_kinds.specs.Sound.{IsSound}
use Rattle.fbc_page_edits.specs.Alike.{KeepsLostPagesBut, ReadAlike}
use Rattle.fbc_page_edits.specs.Edited.{with_page}
use Rattle.fbc_page_edits.proofs.Fitted.{frees_mark}
use Rattle.fbc_page_edits.proofs.MarkChanged.{mark_alike}
use Rattle.fbc_page_edits.proofs.NextKept.{mark_next_kept}
use Rattle.fbc_page_edits.proofs.PageFreed.{freed_is_found, freed_lost, freed_sound}
use Rattle.fbc_page_edits.proofs.SameMeaning.{means_same}
use Rattle.fbc_page_edits.proofs.inventories.freed_pages_keep_views.Goals as goal

pub returns : goal.returns
returns c = λ shape view number page content is.
    let made = frees_mark shape page (view number) content is.fits in
    let alike : ReadAlike view (with_page view number content) =
    let P : Page → Type 0 = λ after. ReadAlike view (with_page view number after) in
    subst P made.made (mark_alike view number made.inventory shape.size page false made.stands is.sound) in
    record {
      sound =
          let P : Page → Type 0 = λ after. IsSound (with_page view number after) in
          subst P made.made (freed_sound shape view number page made.inventory is.of_shape is.sound made.stands made.covered is.allowed);
      alike = alike;
      meaning =
          λ living. means_same living view (with_page view number content) alike.states alike.chains (mark_next_kept view number content shape.size page false made);
      lost =
          let P : Page → Type 0 = λ after. KeepsLostPagesBut page view (with_page view number after) in
          subst P made.made (freed_lost shape view number page made.inventory is.of_shape is.sound made.stands made.covered);
      found =
          λ reached. let P : Page → Type 0 = λ after. ¬ IsLostPage (with_page view number after) page in
          subst P made.made (freed_is_found shape view number page made.inventory is.of_shape is.sound made.stands made.covered reached);
    }
