-- A pointer page that names one more data page, which is ready.
use Rattle.std.proofs.Common.{◌≡◌, ◌≢◌, ◌<◌, ◌+◌, ◌*◌, ◌%◌, ℕ, true, false, length, Some, None, le_of_eq, inl, inr, refl, sym, ap, subst, ◌∙◌, div-add-mod'}
use Rattle.std.specs.Option.{option_and_then}
use Rattle.std.proofs.lemmas.Option.{same_Some}
use Rattle.fbc_kinds.specs.declared.pages.Page.TheVariants as kind
use Rattle.fbc_kinds.specs.declared.pages.Pointer.{Pointer}
use Rattle.fbc_kinds.specs.declared.shapes.Shape.{Shape}
use Rattle.fbc_kinds.specs.Limits.{slots}
use Rattle.fbc_kinds.specs.PointerSpelling.{IsPointer}
use Rattle.fbc_kinds.specs.Reach.{DataRole, HeaderRole, InventoryRole, PointerRole, ReachesPage, TipRole}
use Rattle.fbc_kinds.specs.Sound.{IsSound}
use Rattle.fbc_kinds.specs.View.{View, named_in, size_of, slot_in, unless_zero}
use Rattle.fbc_kinds.proofs.Tests.{test_of_different}
use Rattle.fbc_page_edits.specs.Alike.{KeepsLostPagesBut, ReadAlike}
use Rattle.fbc_page_edits.specs.Allowed.{AllowsName}
use Rattle.fbc_page_edits.specs.Edited.{IsOfShape}
use Rattle.fbc_page_edits.specs.Facing.{IsReady}
use Rattle.fbc_page_edits.proofs.HeaderStands.{has_header, size_is}
use Rattle.fbc_page_edits.proofs.PagesAfter.{NamesNoMoreBut, fitting_more, lost_more, state_after, taken_more}
use Rattle.fbc_page_edits.proofs.ReadyPages.{ready_data, ready_data_empty, ready_data_shown}
use Rattle.fbc_page_edits.proofs.SameVersions.{HaveSameVersions}
use Rattle.fbc_page_edits.proofs.SlotChanged.{IsThatSlot, data_same, named_now, slot_cells, slot_cells_of, slot_inventory_of, slot_next, slot_pointer_of, slot_shown, slot_size, slot_states, slot_states_in, slot_taken, slot_tip_of, that_slot, with_slot}
use Rattle.fbc_page_edits.proofs.SoundAfter.{HasSoundPages, alike_after, same_states_stay, sound_after}

-- The slot names no page, and the page that it may name is ready.
pub slot_ready : (shape : Shape) (view : View) (number slot page : ℕ) (pointer : Pointer) → view number ≡ Some (kind.Pointer pointer) → AllowsName shape view slot page (view number)
    → (slot_in (view number) slot ≡ Some 0) × IsReady shape view page 5 pointer.relation (pointer.sequence * slots shape.size + slot)
slot_ready shape view number slot page pointer stands allowed =
    let is = subst (AllowsName shape view slot page) stands allowed in
    (rw stands is.0, is.1)

module _ (shape : Shape) (view : View) (number slot page : ℕ) (pointer : Pointer) (of_shape : IsOfShape shape view) (sound : IsSound view)
    (stands : view number ≡ Some (kind.Pointer pointer)) (within : slot < length pointer.slots) (free : slot_in (view number) slot ≡ Some 0)
    (ready : IsReady shape view page 5 pointer.relation (pointer.sequence * slots shape.size + slot)) where
  abbrev naming : View
  naming = with_slot view number pointer slot page stands

  abbrev sequence : ℕ
  sequence = pointer.sequence * slots shape.size + slot

  none_before : named_in (view number) slot ≡ None
  none_before = ap (option_and_then unless_zero) free

  -- Page 0 is the header.
  not_header : page ≢ 0
  not_header same =
      let found = has_header view sound in
      let both : Some (kind.Header found.header) ≡ view page = sym found.stands ∙ ap view (sym same) in
      let no = both ∙ ready_data shape view page pointer.relation sequence ready in
      cc

  one_now : named_in (naming number) slot ≡ Some page
  one_now = named_now view number pointer slot page stands within ∙ rw (test_of_different page 0 not_header) refl

  -- The slot's own sequence.
  own_sequence : (relation other : ℕ) → IsThatSlot view number pointer slot page stands relation other → DataRole relation other ≡ DataRole pointer.relation sequence
  own_sequence relation other is =
      let size = size_is shape view of_shape sound in
      let whole : other ≡ pointer.sequence * slots (size_of view) + slot =
      sym (div-add-mod' other (slots (size_of view))) ∙ ap (λ q. q * slots (size_of view) + other % slots (size_of view)) is.sequence_is ∙ ap (λ r. pointer.sequence * slots (size_of view) + r) is.place_is in
      ap (λ r. DataRole r other) is.relation_is ∙ ap (DataRole pointer.relation) (whole ∙ ap (λ n. pointer.sequence * slots n + slot) size)

  added_names : NamesNoMoreBut (DataRole pointer.relation sequence) page view naming
  added_names HeaderRole other reached = inl reached
  added_names (InventoryRole place) other reached = inl (sym (slot_inventory_of view number pointer slot page stands place) ∙ reached)
  added_names (TipRole place) other reached = inl (sym (slot_tip_of view number pointer slot page stands place) ∙ reached)
  added_names (PointerRole relation place) other reached = inl (sym (slot_pointer_of view number pointer slot page stands relation place) ∙ reached)
  added_names (DataRole relation place) other reached = elim (data_same view number pointer slot page stands sound relation place) [
    | inl same ↦ inl (sym same ∙ reached)
    | inr is ↦ inr (own_sequence relation place is, same_Some other page (sym reached ∙ is.later ∙ one_now))
  ]

  -- The new data page has no version.
  versions : HaveSameVersions view naming
  versions = record {
    kept = λ relation place other cell version is. record {
      named = elim (data_same view number pointer slot page stands sound relation place) [
        | inl same ↦ same ∙ is.named
        | inr that ↦ let no : None ≡ Some other = sym none_before ∙ sym that.earlier ∙ is.named in cc
      ];
      stands = slot_cells view number pointer slot page stands other cell ∙ is.stands;
      holds = is.holds;
    };
    no_more = λ relation place other cell version is.
        let there = sym (slot_cells view number pointer slot page stands other cell) ∙ is.stands in
        record {
          named = elim (data_same view number pointer slot page stands sound relation place) [
            | inl same ↦ sym same ∙ is.named
            | inr that ↦
                let here : other ≡ page = same_Some other page (sym is.named ∙ that.later ∙ one_now) in
                let none = ready_data_empty shape view page pointer.relation sequence ready cell version (rw here at there) in
                let no : true ≡ false = sym none ∙ is.holds in
                cc
          ];
          stands = there;
          holds = is.holds;
        };
  }

  pages : HasSoundPages naming
  pages = record {
    fitting = fitting_more view naming sound (DataRole pointer.relation sequence) page added_names (slot_shown view number pointer slot page stands) (ready_data_shown shape view page pointer.relation sequence ready);
    taken = taken_more view naming sound (DataRole pointer.relation sequence) page added_names (λ role other reached was. slot_taken view number pointer slot page stands other ∙ was) (slot_taken view number pointer slot page stands page ∙ ready.taken);
    states = λ place other at state reached.
        state_after view naming sound (slot_size view number pointer slot page stands) (le_of_eq (sym (slot_next view number pointer slot page stands))) (slot_states_in view number pointer slot page stands) place other at state
        (sym (slot_tip_of view number pointer slot page stands place) ∙ reached);
  }

  pub named_sound : IsSound naming
  named_sound = sound_after view naming sound versions pages (le_of_eq (sym (slot_next view number pointer slot page stands))) (same_states_stay view naming (slot_states view number pointer slot page stands))

  pub named_alike : ReadAlike view naming
  named_alike = alike_after view naming sound versions (slot_cells_of view number pointer slot page stands) (slot_states view number pointer slot page stands)

  pub named_reached : ReachesPage view number → ReachesPage naming page
  named_reached reached =
      let size = size_is shape view of_shape sound in
      let fits : IsPointer shape.size pointer = of_shape.within number (kind.Pointer pointer) stands in
      let room : slot < slots (size_of view) = rw (size, sym fits.count) within in
      let that = that_slot view number pointer slot page stands sound reached room in
      (DataRole pointer.relation (pointer.sequence * slots (size_of view) + slot), that.later ∙ one_now)

  pub named_lost : KeepsLostPagesBut page view naming
  named_lost = lost_more view naming sound (DataRole pointer.relation sequence) page added_names (λ other taken. slot_taken view number pointer slot page stands other ∙ taken)
