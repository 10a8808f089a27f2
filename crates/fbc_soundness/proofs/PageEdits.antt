-- Views that see a page taken, freed or made, or a data page named or named no more.
use Rattle.std.proofs.Common.{◌≡◌, ◌∙◌, ◌*◌, ◌+◌, ℕ, true, false, Option, Some, refl, sym, ap, subst}
use Rattle.std.specs.Option.{option_map_or}
use Rattle.fbc_kinds.specs.declared.edits.Edit.{Edit}
use Rattle.fbc_kinds.specs.declared.edits.Edit.TheVariants as edit
use Rattle.fbc_kinds.specs.declared.pages.Header.{Header}
use Rattle.fbc_kinds.specs.declared.pages.Inventory.{Inventory}
use Rattle.fbc_kinds.specs.declared.pages.Page.{Page}
use Rattle.fbc_kinds.specs.declared.pages.Page.TheVariants as kind
use Rattle.fbc_kinds.specs.declared.shapes.Shape.{Shape}
use Rattle.fbc_kinds.specs.Limits.{slots}
use Rattle.fbc_kinds.specs.Reach.{ReachesPage}
use Rattle.fbc_kinds.specs.View.{View, header_in, named_in, next_of, slot_in}
use Rattle.fbc_page_edits.specs.Allowed.{AllowsUnname}
use Rattle.fbc_page_edits.specs.Edited.{with_page}
use Rattle.fbc_page_edits.proofs.Changed.{read_alike}
use Rattle.fbc_page_edits.proofs.Fitted.{frees_mark, names_slot, takes_mark, unnames_slot}
use Rattle.fbc_page_edits.proofs.MarkChanged.{mark_alike}
use Rattle.fbc_page_edits.proofs.PageFreed.{freed_sound}
use Rattle.fbc_page_edits.proofs.PageNamed.{named_alike, named_sound}
use Rattle.fbc_page_edits.proofs.PageTaken.{taken_sound}
use Rattle.fbc_page_edits.proofs.PageUnnamed.{unnamed_alike, unnamed_sound}
use Rattle.fbc_page_edits.proofs.SlotChanged.{slot_next}
use Rattle.fbc_world.specs.History.{History}
use Rattle.fbc_legal.specs.Facts.{HasNoVersion}
use Rattle.fbc_legal.specs.Leans.{NameLeans}
use Rattle.fbc_legal.specs.Scene.{Scene, newest_at, scene_of}
use Rattle.fbc_legal.specs.Stamps.{Stamps}
use Rattle.fbc_closed_cuts.specs.Owed.{IsSeenEdit}
use Rattle.fbc_soundness.specs.Seen.{IsKept}
use Rattle.fbc_soundness.proofs.Kept.{kept_alike, kept_off}
use Rattle.fbc_soundness.proofs.Ready.{ready_seen}
use Rattle.fbc_closed_cuts.proofs.LeansSeen.{lean-seen}

-- A page inventory for a page inventory leaves the next number.
mark_next : (view : View) (number : ℕ) (old new : Inventory) → view number ≡ Some (kind.Inventory old) → next_of (with_page view number (kind.Inventory new)) ≡ next_of view
mark_next view number old new stands = read_alike view number (kind.Inventory new) (λ _ (o : Option Page). option_map_or (λ (h : Header). h.next) (header_in o) 0) (rw stands refl) 0

module _ (shape : Shape) (file : View) (past : History) (owner page : ℕ) (content : Page) (seen : View) (stamps : ℕ → Stamps) where
  abbrev at : Scene
  at = scene_of shape file past

  abbrev Keeps : Page → Type 0
  Keeps new = IsKept seen (with_page seen page new)

  abbrev Sees : Edit → Type 0
  Sees e = IsSeenEdit shape file past owner page e content seen stamps

  pub take_kept : (taken : ℕ) → Sees (edit.TakePage taken) → Keeps content
  take_kept taken is =
      let made = takes_mark shape taken (seen page) content is.fits in
      subst Keeps made.made
      (kept_alike seen _ (taken_sound shape seen page taken made.inventory is.of_shape is.sound made.stands made.covered) (mark_alike seen page made.inventory shape.size taken true made.stands is.sound) (mark_next seen page made.inventory _ made.stands))

  pub free_kept : (freed : ℕ) → Sees (edit.FreePage freed) → Keeps content
  free_kept freed is =
      let made = frees_mark shape freed (seen page) content is.fits in
      let row = is.guard.row in
      let off : ¬ ReachesPage seen freed = is.sees.unreached freed is.guard.leans row.no_header row.no_inventory in
      subst Keeps made.made
      (kept_alike seen _ (freed_sound shape seen page freed made.inventory is.of_shape is.sound made.stands made.covered off) (mark_alike seen page made.inventory shape.size freed false made.stands is.sound) (mark_next seen page made.inventory _ made.stands))

  pub format_kept : (page_kind number relation sequence : ℕ) → Sees (edit.Format page_kind number relation sequence) → Keeps content
  format_kept page_kind number relation sequence is =
      let row = is.guard.row in
      let off : ¬ ReachesPage seen page = is.sees.unreached page is.guard.leans.nowhere row.no_header row.no_inventory in
      kept_off seen page content is.sound off

  pub name_kept : (slot named : ℕ) → Sees (edit.Name slot named) → Keeps content
  name_kept slot named is =
      let made = names_slot shape slot named (seen page) content is.fits in
      let now : newest_at at page ≡ Some (kind.Pointer made.pointer) = sym is.sees.edited_page.page ∙ made.stands in
      let leans : NameLeans at owner page slot named (Some (kind.Pointer made.pointer)) = subst (NameLeans at owner page slot named) now is.guard.leans in
      let ready = ready_seen at owner page seen stamps is.sees is.of_shape is.sound named 5 made.pointer.relation (made.pointer.sequence * slots shape.size + slot) leans in
      let free : slot_in (seen page) slot ≡ Some 0 = ap (λ (o : Option Page). slot_in o slot) is.sees.edited_page.page ∙ is.guard.row in
      subst Keeps made.made
      (kept_alike seen _ (named_sound shape seen page slot named made.pointer is.of_shape is.sound made.stands made.within free ready) (named_alike shape seen page slot named made.pointer is.of_shape is.sound made.stands made.within free ready) (slot_next seen page made.pointer slot named made.stands))

  pub unname_kept : (slot : ℕ) → Sees (edit.Unname slot) → Keeps content
  unname_kept slot is =
      let made = unnames_slot shape slot (seen page) content is.fits in
      let allowed : AllowsUnname seen page slot = λ named there.
      lean-seen at owner page seen stamps is.sees HasNoVersion named (is.guard.leans named (sym (ap (λ (o : Option Page). named_in o slot) is.sees.edited_page.page) ∙ there)).empty in
      subst Keeps made.made
      (kept_alike seen _ (unnamed_sound shape seen page slot made.pointer is.of_shape is.sound made.stands made.within allowed) (unnamed_alike shape seen page slot made.pointer is.of_shape is.sound made.stands made.within allowed) (slot_next seen page made.pointer slot 0 made.stands))
