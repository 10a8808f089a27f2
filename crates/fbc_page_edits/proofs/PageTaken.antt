-- A page inventory that shows one more page as taken.
use Rattle.std.proofs.Common.{◌≡◌, ◌<◌, ◌/◌, ◌%◌, ℕ, true, Option, Some, slice_get, inl, inr, sym, ap, ◌∙◌, arith, mod-lt}
use Rattle.std.proofs.lemmas.Option.{slice_get_within}
use Rattle.fbc_kinds.specs.declared.pages.Inventory.{Inventory}
use Rattle.fbc_kinds.specs.declared.pages.Page.{Page}
use Rattle.fbc_kinds.specs.declared.pages.Page.TheVariants as kind
use Rattle.fbc_kinds.specs.declared.shapes.Shape.{Shape}
use Rattle.fbc_kinds.specs.InventorySpelling.{IsInventory}
use Rattle.fbc_kinds.specs.Limits.{inventory_bits}
use Rattle.fbc_kinds.specs.Lost.{IsLostPage}
use Rattle.fbc_kinds.specs.Reach.{InventoryRole, ReachesPage}
use Rattle.fbc_kinds.specs.Sound.{IsSound}
use Rattle.fbc_kinds.specs.View.{View, inventory_of, is_taken, mark_in, size_of}
use Rattle.fbc_kinds.proofs.EditLimits.{slice_get-set_same}
use Rattle.fbc_page_edits.specs.Alike.{KeepsLostPages}
use Rattle.fbc_page_edits.specs.Edited.{IsOfShape}
use Rattle.fbc_page_edits.proofs.HeaderStands.{size_is}
use Rattle.fbc_page_edits.proofs.MarkChanged.{changed_mark, mark_names, mark_no_more, mark_sound, marks, with_mark_of}
use Rattle.fbc_page_edits.proofs.PagesAfter.{lost_no_more}
use Rattle.fbc_page_edits.proofs.ReachedRoles.{reached_in_own_role}
use Rattle.fbc_page_edits.proofs.SameNames.{same_page_for, same_size}
use Rattle.fbc_page_edits.proofs.TakenBy.{taken_by, taken_from}

module _ (shape : Shape) (view : View) (number page : ℕ) (inventory : Inventory) (of_shape : IsOfShape shape view) (sound : IsSound view)
    (stands : view number ≡ Some (kind.Inventory inventory)) (covered : page / inventory_bits shape.size ≡ inventory.sequence) where
  abbrev taking : View
  taking = with_mark_of view number inventory shape.size page true stands

  still_marked : (other place : ℕ) → mark_in (view other) place ≡ Some true → mark_in (taking other) place ≡ Some true
  still_marked other place is = elim (marks view number inventory shape.size page true stands other place) [
    | inl same ↦ same ∙ is
    | inr here ↦
        let marked : slice_get inventory.taken (page % inventory_bits shape.size) ≡ Some true = sym (ap (λ (o : Option Page). mark_in o (page % inventory_bits shape.size)) stands) ∙ rw (here.0, here.1) at is in
        rw (here.0, here.1)
        (changed_mark view number inventory shape.size page true stands
        ∙ slice_get-set_same inventory.taken (page % inventory_bits shape.size) true (slice_get_within inventory.taken (page % inventory_bits shape.size) true marked))
  ]

  kept_taken : (other : ℕ) → is_taken view other ≡ true → is_taken taking other ≡ true
  kept_taken other taken =
      let by = taken_by view other taken in
      let names = mark_names view number inventory shape.size page true stands in
      let size = same_size view taking names in
      taken_from taking other by.0 (record {
        counted = rw size (same_page_for view taking names (InventoryRole (other / inventory_bits (size_of view))) ∙ by.1.counted);
        marked = rw size (still_marked by.0 (other % inventory_bits (size_of view)) by.1.marked);
      })

  pub taken_sound : IsSound taking
  taken_sound = mark_sound view number inventory shape.size page true stands sound (λ role other reached was. kept_taken other was)

  pub taken_lost : KeepsLostPages view taking
  taken_lost = lost_no_more view taking sound (mark_no_more view number inventory shape.size page true stands) kept_taken

  taken_now : ReachesPage view number → is_taken taking page ≡ true
  taken_now reached =
      let names = mark_names view number inventory shape.size page true stands in
      let size : size_of taking ≡ shape.size = same_size view taking names ∙ size_is shape view of_shape sound in
      let fits : IsInventory shape.size inventory = of_shape.within number (kind.Inventory inventory) stands in
      let own : inventory_of view inventory.sequence ≡ Some number = reached_in_own_role view sound number (kind.Inventory inventory) stands reached in
      let some : 0 < inventory_bits shape.size = let right_size = of_shape.is_shape.size in grind arith in
      taken_from taking page number (record {
        counted = rw size (rw covered (same_page_for view taking names (InventoryRole inventory.sequence) ∙ own));
        marked = rw size
            (changed_mark view number inventory shape.size page true stands
            ∙ slice_get-set_same inventory.taken (page % inventory_bits shape.size) true (omega (arith, mod-lt page some, fits.count)));
      })

  pub taken_is_lost : ReachesPage view number → ¬ ReachesPage view page → IsLostPage taking page
  taken_is_lost reached unreached = record {
    taken = taken_now reached;
    unreached = λ later. unreached (later.0, mark_no_more view number inventory shape.size page true stands later.0 page later.1);
  }
