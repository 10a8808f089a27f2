-- Views that see the header name one more page, or count one more page inventory.
use Rattle.std.proofs.Common.{◌≡◌, ◌∙◌, ℕ, length, inl, inr, Option, Some, None, refl, sym, subst}
use Rattle.fbc_kinds.specs.declared.edits.Edit.{Edit}
use Rattle.fbc_kinds.specs.declared.edits.Edit.TheVariants as edit
use Rattle.fbc_kinds.specs.declared.pages.Header.{Header}
use Rattle.fbc_kinds.specs.declared.pages.Page.{Page}
use Rattle.fbc_kinds.specs.declared.pages.Page.TheVariants as kind
use Rattle.fbc_kinds.specs.declared.pages.Relation.{Relation}
use Rattle.fbc_kinds.specs.declared.shapes.Shape.{Shape}
use Rattle.fbc_kinds.specs.View.{View, header_in, inventory_page, relation_of}
use Rattle.fbc_page_edits.specs.Allowed.{AllowsPointer}
use Rattle.fbc_page_edits.specs.Edited.{with_page}
use Rattle.fbc_page_edits.proofs.Fitted.{adds_inventory, adds_pointer, adds_tip}
use Rattle.fbc_page_edits.proofs.HeaderCases.{header_cases}
use Rattle.fbc_page_edits.proofs.HeaderChanged.{header_or_unreached}
use Rattle.fbc_page_edits.proofs.InventoryAdded.{added_inventory_alike, added_inventory_sound}
use Rattle.fbc_page_edits.proofs.PointerAdded.{added_pointer_alike, added_pointer_sound, entry_ready}
use Rattle.fbc_page_edits.proofs.TipAdded.{added_tip_alike, added_tip_sound}
use Rattle.fbc_world.specs.History.{History}
use Rattle.fbc_legal.specs.Facts.{IsInventory}
use Rattle.fbc_legal.specs.Leans.{InventoryLeans, PointerLeans, TipLeans}
use Rattle.fbc_legal.specs.Scene.{Scene, newest_at, scene_of}
use Rattle.fbc_legal.specs.Stamps.{Stamps}
use Rattle.fbc_closed_cuts.specs.Owed.{IsSeenEdit}
use Rattle.fbc_soundness.specs.Seen.{IsKept}
use Rattle.fbc_soundness.proofs.Kept.{kept_alike, kept_off}
use Rattle.fbc_soundness.proofs.Ready.{ready_seen}
use Rattle.fbc_closed_cuts.proofs.LeansSeen.{lean-seen}

module _ (shape : Shape) (file : View) (past : History) (owner page : ℕ) (content : Page) (seen : View) (stamps : ℕ → Stamps) where
  abbrev at : Scene
  at = scene_of shape file past

  abbrev after : View
  after = with_page seen page content

  abbrev Sees : Edit → Type 0
  Sees e = IsSeenEdit shape file past owner page e content seen stamps

  -- The header that the edit changes is the newest content of its page.
  newest_header : (e : Edit) (header : Header) → Sees e → seen page ≡ Some (kind.Header header) → newest_at at page ≡ Some (kind.Header header)
  newest_header e header is stands = sym is.sees.edited_page.page ∙ stands

  pub tip_kept : (added : ℕ) → Sees (edit.AddTip added) → IsKept seen after
  tip_kept added is =
      let made = adds_tip shape added (seen page) content is.fits in
      let leans : TipLeans at owner page added (Some made.header) =
      subst (λ (o : Option Page). TipLeans at owner page added (header_in o)) (newest_header (edit.AddTip added) made.header is made.changes.stands) is.guard.leans in
      let ready = ready_seen at owner page seen stamps is.sees is.of_shape is.sound added 3 0 (length made.header.tips) leans.0 in
      header_cases (IsKept seen) seen page content made.header _ is.sound made.changes
      (λ stands. kept_alike seen _ (added_tip_sound shape seen made.header added is.sound stands ready) (added_tip_alike shape seen made.header added is.sound stands ready) (rw stands refl))
      (λ off. kept_off seen page content is.sound off)

  pub inventory_kept : Sees edit.AddInventory → IsKept seen after
  inventory_kept is =
      let made = adds_inventory shape (seen page) content is.fits in
      let leans : InventoryLeans at owner page (Some made.header) =
      subst (λ (o : Option Page). InventoryLeans at owner page (header_in o)) (newest_header edit.AddInventory made.header is made.changes.stands) is.guard.leans in
      let next : ℕ = inventory_page shape.size made.header.inventories in
      let there = lean-seen at owner page seen stamps is.sees (IsInventory next made.header.inventories) next leans in
      header_cases (IsKept seen) seen page content made.header _ is.sound made.changes
      (λ stands. kept_alike seen _ (added_inventory_sound shape seen made.header is.sound is.of_shape stands there) (added_inventory_alike shape seen made.header is.sound is.of_shape stands there) (rw stands refl))
      (λ off. kept_off seen page content is.sound off)

  module _ (relation added : ℕ) (is : Sees (edit.AddPointer relation added)) where
    pointer_allowed : (o : Option Relation) → PointerLeans at owner page added relation o → AllowsPointer shape seen relation added o
    pointer_allowed None leans = leans
    pointer_allowed (Some entry) leans = ready_seen at owner page seen stamps is.sees is.of_shape is.sound added 4 relation (length entry.pointers) leans.0

    at_header : 0 ≡ page → AllowsPointer shape seen relation added (relation_of seen relation)
    at_header here =
        let same : seen 0 ≡ newest_at at 0 = subst (λ p. seen p ≡ newest_at at p) (sym here) is.sees.edited_page.page in
        rw same (pointer_allowed (relation_of (newest_at at) relation) is.guard.leans)

    pub pointer_kept : IsKept seen after
    pointer_kept =
        let made = adds_pointer shape relation added (seen page) content is.fits in
        elim (header_or_unreached seen page made.header is.sound made.changes.stands) [
          | inl here ↦
              header_cases (IsKept seen) seen page content made.header _ is.sound made.changes
              (λ stands.
              let ready = entry_ready shape seen made.header relation added made.entry stands made.entry_is (at_header here) in
              kept_alike seen _ (added_pointer_sound shape seen made.header relation added made.entry is.sound stands made.entry_is ready) (added_pointer_alike shape seen made.header relation added made.entry is.sound stands made.entry_is ready) (rw stands refl))
              (λ off. kept_off seen page content is.sound off)
          | inr off ↦ kept_off seen page content is.sound off
        ]
