-- A header that counts one more page inventory, which has its kind and sequence.
use Rattle.std.proofs.Common.{◌≡◌, ◌≢◌, ◌⊎◌, ◌<◌, ◌+◌, ◌*◌, ◌/◌, ◌%◌, ℕ, true, false, nat_lt, if◌then◌else◌, Option, Some, None, slice_get, le_of_eq, inl, inr, refl, sym, ap, ◌∙◌, arith}
use Rattle.std.proofs.lemmas.Bool.{cases_eq}
use Rattle.std.proofs.lemmas.Bool.Decides.{nat_tests}
use Rattle.std.proofs.lemmas.Option.{same_Some}
use Rattle.std.proofs.Math.Nat.{mul-div_cancel}
use Rattle.fbc_kinds.specs.declared.pages.Header.{Header}
use Rattle.fbc_kinds.specs.declared.pages.Inventory.{Inventory}
use Rattle.fbc_kinds.specs.declared.pages.Page.{Page}
use Rattle.fbc_kinds.specs.declared.pages.Page.TheVariants as kind
use Rattle.fbc_kinds.specs.declared.shapes.Shape.{Shape}
use Rattle.fbc_kinds.specs.InventorySpelling.{IsInventory}
use Rattle.fbc_kinds.specs.Limits.{inventory_bits}
use Rattle.fbc_kinds.specs.Reach.{DataRole, HeaderRole, InventoryRole, PointerRole, TipRole, shows_role}
use Rattle.fbc_kinds.specs.Sound.{IsSound}
use Rattle.fbc_kinds.specs.View.{View, inventory_of, inventory_page, is_taken, mark_in, size_of}
use Rattle.fbc_kinds.proofs.Heads.{both_pass}
use Rattle.fbc_kinds.proofs.Tests.{same_from_test, test_of_different}
use Rattle.fbc_page_edits.specs.Alike.{HaveSameStates, KeepsLostPages, ReadAlike}
use Rattle.fbc_page_edits.specs.Edited.{IsOfShape}
use Rattle.fbc_page_edits.proofs.HeaderChanged.{header_cells_of, header_data_of, header_marks, header_pointer_of, header_shown, header_states, header_states_of, header_tip_of, header_versions, with_header}
use Rattle.fbc_page_edits.proofs.HeaderStands.{header_fits}
use Rattle.fbc_page_edits.proofs.PagesAfter.{NamesNoMoreBut, fitting_more, state_after, taken_more}
use Rattle.fbc_page_edits.proofs.SoundAfter.{HasSoundPages, alike_after, same_states_stay, sound_after}
use Rattle.fbc_page_edits.proofs.TakenBy.{taken_by, taken_from}

-- A page that shows this role is a page inventory of its own number and of the sequence.
pub record IsInventoryOf (o : Option Page) (number sequence : ℕ) : Type 0 where
  pub inventory : Inventory
  pub stands : o ≡ Some (kind.Inventory inventory)
  pub page_is : inventory.page ≡ number
  pub sequence_is : inventory.sequence ≡ sequence

pub shown_inventory : (sequence number : ℕ) (o : Option Page) → shows_role (InventoryRole sequence) number o ≡ true → IsInventoryOf o number sequence
shown_inventory sequence number (Some (kind.Inventory inventory)) shown =
    let tests = both_pass _ _ shown in
    record { inventory = inventory; stands = refl; page_is = same_from_test _ _ tests.0; sequence_is = same_from_test _ _ tests.1 }
shown_inventory sequence number None shown = cc
shown_inventory sequence number (Some _) shown = cc

-- The page inventories that a header counts.
abbrev counted : ℕ → ℕ → ℕ → Option ℕ
counted size count sequence = if nat_lt sequence count then Some (inventory_page size sequence) else None

test_of_next : (sequence count : ℕ) → sequence ≢ count → nat_lt sequence (count + 1) ≡ nat_lt sequence count
test_of_next sequence count differ = grind (arith, nat_tests)

test_of_last : (count : ℕ) → nat_lt count (count + 1) ≡ true
test_of_last count = grind (arith, nat_tests)

test_of_past : (count : ℕ) → nat_lt count count ≡ false
test_of_past count = grind (arith, nat_tests)

module _ (shape : Shape) (view : View) (header : Header) (sound : IsSound view) (of_shape : IsOfShape shape view) (stands : view 0 ≡ Some (kind.Header header))
    (shown : shows_role (InventoryRole header.inventories) (inventory_page shape.size header.inventories) (view (inventory_page shape.size header.inventories)) ≡ true) where
  abbrev new : Header
  new = record header { inventories = header.inventories + 1 }

  abbrev added : View
  added = with_header view header new stands

  abbrev page : ℕ
  page = inventory_page shape.size header.inventories

  size_same : header.size ≡ shape.size
  size_same = (header_fits shape view header of_shape stands).page_size

  none_counted : inventory_of view header.inventories ≡ None
  none_counted = rw (stands, test_of_past header.inventories) refl

  one_counted : inventory_of added header.inventories ≡ Some page
  one_counted = rw (test_of_last header.inventories) (ap (λ size. Some (inventory_page size header.inventories)) size_same)

  inventories : (sequence : ℕ) → (inventory_of added sequence ≡ inventory_of view sequence) ⊎ (sequence ≡ header.inventories)
  inventories sequence = elim (cases_eq sequence header.inventories) [
    | inl same ↦ inr same
    | inr differ ↦ inl (rw (stands, test_of_next sequence header.inventories differ) refl)
  ]

  added_names : NamesNoMoreBut (InventoryRole header.inventories) page view added
  added_names HeaderRole other reached = inl reached
  added_names (InventoryRole sequence) other reached = elim (inventories sequence) [
    | inl same ↦ inl (sym same ∙ reached)
    | inr is ↦ inr (ap InventoryRole is, same_Some other page (sym reached ∙ ap (inventory_of added) is ∙ one_counted))
  ]
  added_names (TipRole sequence) other reached = inl (sym (header_tip_of view header new stands refl refl sequence) ∙ reached)
  added_names (PointerRole relation sequence) other reached = inl (sym (header_pointer_of view header new stands refl refl relation sequence) ∙ reached)
  added_names (DataRole relation sequence) other reached = inl (sym (header_data_of view header new stands refl refl relation sequence) ∙ reached)

  -- What was taken stays taken.
  kept_taken : (other : ℕ) → is_taken view other ≡ true → is_taken added other ≡ true
  kept_taken other taken =
      let by = taken_by view other taken in
      let size : size_of view ≡ header.size = rw stands refl in
      let before : inventory_of view (other / inventory_bits header.size) ≡ Some by.0 = rw size at by.1.counted in
      let marked : mark_in (view by.0) (other % inventory_bits header.size) ≡ Some true = rw size at by.1.marked in
      taken_from added other by.0 (record {
        counted = elim (inventories (other / inventory_bits header.size)) [
          | inl same ↦ same ∙ before
          | inr is ↦ let no : None ≡ Some by.0 = sym none_counted ∙ ap (inventory_of view) (sym is) ∙ before in cc
        ];
        marked = header_marks view header new stands by.0 (other % inventory_bits header.size) ∙ marked;
      })

  -- The new page inventory covers itself.
  some_bits : 0 < inventory_bits shape.size
  some_bits = let right_size = of_shape.is_shape.size in grind arith

  page_is : page ≡ header.inventories * inventory_bits shape.size
  page_is =
      let some = (header_fits shape view header of_shape stands).inventories_from in
      let several : header.inventories ≢ 0 = omega arith in
      rw (test_of_different header.inventories 0 several) refl

  covers_itself : page / inventory_bits shape.size ≡ header.inventories
  covers_itself = ap (λ n. n / inventory_bits shape.size) page_is ∙ mul-div_cancel header.inventories some_bits

  marks_itself : mark_in (view page) (page % inventory_bits shape.size) ≡ Some true
  marks_itself =
      let is = shown_inventory header.inventories page (view page) shown in
      let fits : IsInventory shape.size is.inventory = of_shape.within page (kind.Inventory is.inventory) is.stands in
      let own = fits.own (ap (λ n. n / inventory_bits shape.size) is.page_is ∙ covers_itself ∙ sym is.sequence_is) in
      ap (λ (o : Option Page). mark_in o (page % inventory_bits shape.size)) is.stands
      ∙ ap (λ n. slice_get is.inventory.taken (n % inventory_bits shape.size)) (sym is.page_is)
      ∙ own

  takes_itself : is_taken added page ≡ true
  takes_itself = taken_from added page page (record {
    counted = ap (λ size. inventory_of added (page / inventory_bits size)) size_same ∙ ap (inventory_of added) covers_itself ∙ one_counted;
    marked = header_marks view header new stands page (page % inventory_bits header.size) ∙ ap (λ size. mark_in (view page) (page % inventory_bits size)) size_same ∙ marks_itself;
  })

  -- Before, its own page inventory was not counted, so that it was not taken.
  untaken : ¬ (is_taken view page ≡ true)
  untaken taken =
      let by = taken_by view page taken in
      let size : size_of view ≡ shape.size = rw stands size_same in
      let no : None ≡ Some by.0 = sym none_counted ∙ sym (ap (inventory_of view) (ap (λ n. page / inventory_bits n) size ∙ covers_itself)) ∙ by.1.counted in
      cc

  added_pages : HasSoundPages added
  added_pages = record {
    fitting = fitting_more view added sound (InventoryRole header.inventories) page added_names (header_shown view header new stands) shown;
    taken = taken_more view added sound (InventoryRole header.inventories) page added_names (λ role other reached was. kept_taken other was) takes_itself;
    states = λ sequence other place state reached.
        state_after view added sound (rw stands refl) (le_of_eq (rw stands refl)) (header_states view header new stands) sequence other place state (sym (header_tip_of view header new stands refl refl sequence) ∙ reached);
  }

  added_states : HaveSameStates view added
  added_states = header_states_of view header new stands refl refl

  pub added_inventory_sound : IsSound added
  added_inventory_sound = sound_after view added sound (header_versions view header new stands refl refl) added_pages (le_of_eq (rw stands refl)) (same_states_stay view added added_states)

  pub added_inventory_alike : ReadAlike view added
  added_inventory_alike = alike_after view added sound (header_versions view header new stands refl refl) (header_cells_of view header new stands refl refl) added_states

  pub added_inventory_lost : KeepsLostPages view added
  added_inventory_lost other lost = record {
    taken = kept_taken other lost.taken;
    unreached = λ reached. elim (added_names reached.0 other reached.1) [
      | inl earlier ↦ lost.unreached (reached.0, earlier)
      | inr is ↦ untaken (ap (is_taken view) (sym is.1) ∙ lost.taken)
    ];
  }
