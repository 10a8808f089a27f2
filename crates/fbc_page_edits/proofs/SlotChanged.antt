-- A view with one slot of a pointer page changed.
use Rattle.std.proofs.Common.{◌≡◌, ◌⊎◌, ◌<◌, ◌+◌, ◌*◌, ◌/◌, ◌%◌, ℕ, length, set, Option, Some, None, inl, inr, refl, sym, ap, ◌∙◌}
use Rattle.std.specs.Option.{option_and_then}
use Rattle.std.proofs.lemmas.Bool.{cases_eq}
use Rattle.std.proofs.lemmas.Nat.{div-mul-add, mod-mul-add}
use Rattle.fbc_kinds.specs.declared.pages.Page.{Page}
use Rattle.fbc_kinds.specs.declared.pages.Page.TheVariants as kind
use Rattle.fbc_kinds.specs.declared.pages.Pointer.{Pointer}
use Rattle.fbc_kinds.specs.Chain.{cells_of}
use Rattle.fbc_kinds.specs.Limits.{slots}
use Rattle.fbc_kinds.specs.Reach.{DataRole, HeaderRole, InventoryRole, PointerRole, ReachesPage, Role, TipRole, has_role, shows_role}
use Rattle.fbc_kinds.specs.Sound.{IsSound}
use Rattle.fbc_kinds.specs.View.{View, cell_in, data_of, header_in, header_of, inventory_of, is_taken, mark_in, named_in, next_of, pointer_of, size_of, slot_in, state_in, tip_of, unless_zero}
use Rattle.fbc_kinds.proofs.EditLimits.{slice_get-set_other, slice_get-set_same}
use Rattle.fbc_page_edits.specs.Alike.{HaveSameStates}
use Rattle.fbc_page_edits.specs.Edited.{with_page}
use Rattle.fbc_page_edits.proofs.Changed.{changed_elsewhere, changed_here, read_alike}
use Rattle.fbc_page_edits.proofs.PagesAfter.{ShowRoles}
use Rattle.fbc_page_edits.proofs.ReachedRoles.{own_role, reached_in_own_role}

same_pointer_role : (role : Role) (number : ℕ) (pointer : Pointer) (slot page : ℕ) → has_role role number (kind.Pointer (record pointer { slots = set pointer.slots slot page })) ≡ has_role role number (kind.Pointer pointer)
same_pointer_role HeaderRole number pointer slot page = refl
same_pointer_role (InventoryRole sequence) number pointer slot page = refl
same_pointer_role (TipRole sequence) number pointer slot page = refl
same_pointer_role (PointerRole relation sequence) number pointer slot page = refl
same_pointer_role (DataRole relation sequence) number pointer slot page = refl

module _ (view : View) (number : ℕ) (pointer : Pointer) (slot page : ℕ) (stands : view number ≡ Some (kind.Pointer pointer)) where
  abbrev content : Page
  content = kind.Pointer (record pointer { slots = set pointer.slots slot page })

  abbrev pub with_slot : View
  with_slot = with_page view number content

  slot_header : header_of with_slot ≡ header_of view
  slot_header = read_alike view number content (λ _ (o : Option Page). header_in o) (rw stands refl) 0

  pub slot_size : size_of with_slot ≡ size_of view
  slot_size = rw slot_header refl

  pub slot_next : next_of with_slot ≡ next_of view
  slot_next = rw slot_header refl

  pub slot_cells_of : (relation : ℕ) → cells_of with_slot relation ≡ cells_of view relation
  slot_cells_of relation = rw slot_header refl

  pub slot_cells : (other cell : ℕ) → cell_in (with_slot other) cell ≡ cell_in (view other) cell
  slot_cells other cell = read_alike view number content (λ _ (o : Option Page). cell_in o cell) (rw stands refl) other

  slot_marks : (other place : ℕ) → mark_in (with_slot other) place ≡ mark_in (view other) place
  slot_marks other place = read_alike view number content (λ _ (o : Option Page). mark_in o place) (rw stands refl) other

  pub slot_states_in : (other place : ℕ) → state_in (with_slot other) place ≡ state_in (view other) place
  slot_states_in other place = read_alike view number content (λ _ (o : Option Page). state_in o place) (rw stands refl) other

  pub slot_shown : ShowRoles view with_slot
  slot_shown role other = read_alike view number content (λ (n : ℕ) (o : Option Page). shows_role role n o) (rw stands (same_pointer_role role number pointer slot page)) other

  pub slot_taken : (other : ℕ) → is_taken with_slot other ≡ is_taken view other
  slot_taken other = simp slot_marks (rw slot_header refl)

  pub slot_states : HaveSameStates view with_slot
  slot_states other = simp slot_states_in (rw slot_header refl)

  pub slot_inventory_of : (sequence : ℕ) → inventory_of with_slot sequence ≡ inventory_of view sequence
  slot_inventory_of sequence = rw slot_header refl

  pub slot_tip_of : (sequence : ℕ) → tip_of with_slot sequence ≡ tip_of view sequence
  slot_tip_of sequence = rw slot_header refl

  pub slot_pointer_of : (relation sequence : ℕ) → pointer_of with_slot relation sequence ≡ pointer_of view relation sequence
  slot_pointer_of relation sequence = rw slot_header refl

  -- A slot is the one that was changed, or stays.
  slots_same : (other place : ℕ) → (slot_in (with_slot other) place ≡ slot_in (view other) place) ⊎ ((other ≡ number) × (place ≡ slot))
  slots_same other place = elim (cases_eq other number) [
    | inr differ ↦ inl (ap (λ (o : Option Page). slot_in o place) (changed_elsewhere view number content other differ))
    | inl same ↦ elim (cases_eq place slot) [
      | inl here ↦ inr (same, here)
      | inr there ↦ inl (rw same
          (ap (λ (o : Option Page). slot_in o place) (changed_here view number content)
          ∙ slice_get-set_other pointer.slots slot place page there
          ∙ sym (ap (λ (o : Option Page). slot_in o place) stands)))
    ]
  ]

  -- What the slot names afterwards.
  pub named_now : slot < length pointer.slots → named_in (with_slot number) slot ≡ unless_zero page
  named_now within = ap (λ (o : Option Page). named_in o slot) (changed_here view number content) ∙ ap (option_and_then unless_zero) (slice_get-set_same pointer.slots slot page within)

  -- Which data page the slot is of.
  pub record IsThatSlot (relation sequence : ℕ) : Type 0 where
    pub relation_is : relation ≡ pointer.relation
    pub sequence_is : sequence / slots (size_of view) ≡ pointer.sequence
    pub place_is : sequence % slots (size_of view) ≡ slot
    pub earlier : data_of view relation sequence ≡ named_in (view number) slot
    pub later : data_of with_slot relation sequence ≡ named_in (with_slot number) slot

  abbrev from : View → ℕ → Option ℕ → Option ℕ
  from any sequence = option_and_then (λ (p : ℕ). named_in (any p) (sequence % slots (size_of view)))

  data_after : (relation sequence : ℕ) → data_of with_slot relation sequence ≡ from with_slot sequence (pointer_of view relation (sequence / slots (size_of view)))
  data_after relation sequence = rw slot_header refl

  module _ (sound : IsSound view) where
    -- A data page is that of the slot, or stays.
    pub data_same : (relation sequence : ℕ) → (data_of with_slot relation sequence ≡ data_of view relation sequence) ⊎ IsThatSlot relation sequence
    data_same relation sequence = go (pointer_of view relation (sequence / slots (size_of view))) refl
      where
        go : (o : Option ℕ) → pointer_of view relation (sequence / slots (size_of view)) ≡ o → (data_of with_slot relation sequence ≡ data_of view relation sequence) ⊎ IsThatSlot relation sequence
        go None none = inl (data_after relation sequence ∙ ap (from with_slot sequence) none ∙ sym (ap (from view sequence) none))
        go (Some other) there = elim (slots_same other (sequence % slots (size_of view))) [
          | inl same ↦ inl (data_after relation sequence ∙ ap (from with_slot sequence) there ∙ ap (option_and_then unless_zero) same ∙ sym (ap (from view sequence) there))
          | inr here ↦
              let pointed : pointer_of view relation (sequence / slots (size_of view)) ≡ Some number = there ∙ ap Some here.0 in
              let role = own_role view sound number (kind.Pointer pointer) stands (PointerRole relation (sequence / slots (size_of view))) pointed in
              let relation_is : relation ≡ pointer.relation = cc in
              let sequence_is : sequence / slots (size_of view) ≡ pointer.sequence = cc in
              inr (record {
                relation_is = relation_is;
                sequence_is = sequence_is;
                place_is = here.1;
                earlier = ap (from view sequence) pointed ∙ ap (named_in (view number)) here.1;
                later = data_after relation sequence ∙ ap (from with_slot sequence) pointed ∙ ap (named_in (with_slot number)) here.1;
              })
        ]

    -- The data page of the slot, where the pointer page is reached.
    pub that_slot : ReachesPage view number → slot < slots (size_of view) → IsThatSlot pointer.relation (pointer.sequence * slots (size_of view) + slot)
    that_slot reached within =
        let sequence = pointer.sequence * slots (size_of view) + slot in
        let quotient : sequence / slots (size_of view) ≡ pointer.sequence = div-mul-add pointer.sequence (slots (size_of view)) slot within in
        let rest : sequence % slots (size_of view) ≡ slot = mod-mul-add pointer.sequence (slots (size_of view)) slot within in
        let own : pointer_of view pointer.relation pointer.sequence ≡ Some number = reached_in_own_role view sound number (kind.Pointer pointer) stands reached in
        let pointed : pointer_of view pointer.relation (sequence / slots (size_of view)) ≡ Some number = ap (pointer_of view pointer.relation) quotient ∙ own in
        record {
          relation_is = refl;
          sequence_is = quotient;
          place_is = rest;
          earlier = ap (from view sequence) pointed ∙ ap (named_in (view number)) rest;
          later = data_after pointer.relation sequence ∙ ap (from with_slot sequence) pointed ∙ ap (named_in (with_slot number)) rest;
        }
