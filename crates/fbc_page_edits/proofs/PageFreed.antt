-- A page inventory that shows a page as free, which is not reached.
use Rattle.std.proofs.Common.{◌≡◌, ◌≢◌, ◌<◌, ◌/◌, ◌%◌, ℕ, true, false, Some, inl, inr, sym, ap, ◌∙◌, arith, mod-lt}
use Rattle.fbc_kinds.specs.declared.pages.Inventory.{Inventory}
use Rattle.fbc_kinds.specs.declared.pages.Page.TheVariants as kind
use Rattle.fbc_kinds.specs.declared.shapes.Shape.{Shape}
use Rattle.fbc_kinds.specs.InventorySpelling.{IsInventory}
use Rattle.fbc_kinds.specs.Limits.{inventory_bits}
use Rattle.fbc_kinds.specs.Lost.{IsLostPage}
use Rattle.fbc_kinds.specs.Reach.{InventoryRole, ReachesPage}
use Rattle.fbc_kinds.specs.Sound.{IsSound}
use Rattle.fbc_kinds.specs.View.{View, inventory_of, is_taken, mark_in, size_of}
use Rattle.fbc_kinds.proofs.EditLimits.{slice_get-set_same}
use Rattle.std.proofs.lemmas.Option.{same_Some}
use Rattle.fbc_page_edits.specs.Alike.{KeepsLostPagesBut}
use Rattle.fbc_page_edits.specs.Edited.{IsOfShape}
use Rattle.fbc_page_edits.proofs.Division.{same_from_parts}
use Rattle.fbc_page_edits.proofs.HeaderStands.{size_is}
use Rattle.fbc_page_edits.proofs.MarkChanged.{changed_mark, mark_names, mark_no_more, mark_sound, marks, with_mark_of}
use Rattle.fbc_page_edits.proofs.ReachedRoles.{own_role, reached_in_own_role}
use Rattle.fbc_page_edits.proofs.SameNames.{same_page_for, same_size}
use Rattle.fbc_page_edits.proofs.TakenBy.{taken_by, taken_from}

module _ (shape : Shape) (view : View) (number page : ℕ) (inventory : Inventory) (of_shape : IsOfShape shape view) (sound : IsSound view)
    (stands : view number ≡ Some (kind.Inventory inventory)) (covered : page / inventory_bits shape.size ≡ inventory.sequence) where
  abbrev freeing : View
  freeing = with_mark_of view number inventory shape.size page false stands

  -- The mark of a page that is counted there is that of this page alone.
  same_page : (other : ℕ) → inventory_of view (other / inventory_bits shape.size) ≡ Some number → other % inventory_bits shape.size ≡ page % inventory_bits shape.size → other ≡ page
  same_page other counted place =
      let role = own_role view sound number (kind.Inventory inventory) stands (InventoryRole (other / inventory_bits shape.size)) counted in
      let quotient : other / inventory_bits shape.size ≡ inventory.sequence = cc in
      same_from_parts (inventory_bits shape.size) other page (quotient ∙ sym covered) place

  still_taken : (other : ℕ) → other ≢ page → is_taken view other ≡ true → is_taken freeing other ≡ true
  still_taken other differ taken =
      let by = taken_by view other taken in
      let names = mark_names view number inventory shape.size page false stands in
      let size = size_is shape view of_shape sound in
      let later : size_of freeing ≡ shape.size = same_size view freeing names ∙ size in
      let counted : inventory_of view (other / inventory_bits shape.size) ≡ Some by.0 = rw size at by.1.counted in
      let marked : mark_in (view by.0) (other % inventory_bits shape.size) ≡ Some true = rw size at by.1.marked in
      taken_from freeing other by.0 (record {
        counted = rw later (same_page_for view freeing names (InventoryRole (other / inventory_bits shape.size)) ∙ counted);
        marked = rw later (elim (marks view number inventory shape.size page false stands by.0 (other % inventory_bits shape.size)) [
          | inl same ↦ same ∙ marked
          | inr here ↦ absurd (differ (same_page other (counted ∙ ap Some here.0) here.1))
        ]);
      })

  module _ (unreached : ¬ ReachesPage view page) where
    pub freed_sound : IsSound freeing
    freed_sound = mark_sound view number inventory shape.size page false stands sound (λ role other reached taken. still_taken other (λ same. unreached (role, reached ∙ ap Some same)) taken)

  pub freed_lost : KeepsLostPagesBut page view freeing
  freed_lost other differ lost = record {
    taken = still_taken other differ lost.taken;
    unreached = λ later. lost.unreached (later.0, mark_no_more view number inventory shape.size page false stands later.0 other later.1);
  }

  -- Where the page inventory is reached, the page is free.
  pub freed_is_found : ReachesPage view number → ¬ IsLostPage freeing page
  freed_is_found reached lost =
      let by = taken_by freeing page lost.taken in
      let names = mark_names view number inventory shape.size page false stands in
      let later : size_of freeing ≡ shape.size = same_size view freeing names ∙ size_is shape view of_shape sound in
      let fits : IsInventory shape.size inventory = of_shape.within number (kind.Inventory inventory) stands in
      let own : inventory_of view inventory.sequence ≡ Some number = reached_in_own_role view sound number (kind.Inventory inventory) stands reached in
      let counted : inventory_of freeing (page / inventory_bits shape.size) ≡ Some by.0 = rw later at by.1.counted in
      let counted_before : inventory_of view inventory.sequence ≡ Some by.0 = sym (same_page_for view freeing names (InventoryRole inventory.sequence)) ∙ ap (inventory_of freeing) (sym covered) ∙ counted in
      let here : by.0 ≡ number = same_Some by.0 number (sym counted_before ∙ own) in
      let marked : mark_in (freeing by.0) (page % inventory_bits shape.size) ≡ Some true = rw later at by.1.marked in
      let some : 0 < inventory_bits shape.size = let right_size = of_shape.is_shape.size in grind arith in
      let cleared : mark_in (freeing number) (page % inventory_bits shape.size) ≡ Some false =
      changed_mark view number inventory shape.size page false stands
      ∙ slice_get-set_same inventory.taken (page % inventory_bits shape.size) false (omega (arith, mod-lt page some, fits.count)) in
      let both : Some true ≡ Some false = sym marked ∙ ap (λ (n : ℕ). mark_in (freeing n) (page % inventory_bits shape.size)) here ∙ cleared in
      let no : true ≡ false = same_Some true false both in
      cc
