-- A pointer page that names a data page no more, which has no version.
use Rattle.std.proofs.Common.{◌≡◌, ◌<◌, ◌+◌, ◌*◌, ℕ, true, false, length, Some, None, le_of_eq, inl, inr, sym, ap, ◌∙◌}
use Rattle.fbc_kinds.specs.declared.pages.Page.TheVariants as kind
use Rattle.fbc_kinds.specs.declared.pages.Pointer.{Pointer}
use Rattle.fbc_kinds.specs.declared.shapes.Shape.{Shape}
use Rattle.fbc_kinds.specs.Limits.{slots}
use Rattle.fbc_kinds.specs.PointerSpelling.{IsPointer}
use Rattle.fbc_kinds.specs.Reach.{DataRole, HeaderRole, InventoryRole, PointerRole, ReachesPage, TipRole, page_for}
use Rattle.fbc_kinds.specs.Sound.{IsSound}
use Rattle.fbc_kinds.specs.View.{View, named_in, size_of}
use Rattle.fbc_page_edits.specs.Alike.{KeepsLostPages, ReadAlike}
use Rattle.fbc_page_edits.specs.Allowed.{AllowsUnname}
use Rattle.fbc_page_edits.specs.Edited.{IsOfShape}
use Rattle.fbc_page_edits.proofs.HeaderStands.{size_is}
use Rattle.fbc_page_edits.proofs.PagesAfter.{NamesNoMore, fitting_after, lost_no_more, state_after, taken_after}
use Rattle.fbc_page_edits.proofs.SameVersions.{HaveSameVersions}
use Rattle.fbc_page_edits.proofs.SlotChanged.{data_same, named_now, slot_cells, slot_cells_of, slot_inventory_of, slot_next, slot_pointer_of, slot_shown, slot_size, slot_states, slot_states_in, slot_taken, slot_tip_of, that_slot, with_slot}
use Rattle.fbc_page_edits.proofs.SoundAfter.{HasSoundPages, alike_after, same_states_stay, sound_after}

module _ (shape : Shape) (view : View) (number slot : ℕ) (pointer : Pointer) (of_shape : IsOfShape shape view) (sound : IsSound view)
    (stands : view number ≡ Some (kind.Pointer pointer)) (within : slot < length pointer.slots) (allowed : AllowsUnname view number slot) where
  abbrev unnaming : View
  unnaming = with_slot view number pointer slot 0 stands

  none_now : named_in (unnaming number) slot ≡ None
  none_now = named_now view number pointer slot 0 stands within

  names : NamesNoMore view unnaming
  names HeaderRole other reached = reached
  names (InventoryRole place) other reached = sym (slot_inventory_of view number pointer slot 0 stands place) ∙ reached
  names (TipRole place) other reached = sym (slot_tip_of view number pointer slot 0 stands place) ∙ reached
  names (PointerRole relation place) other reached = sym (slot_pointer_of view number pointer slot 0 stands relation place) ∙ reached
  names (DataRole relation place) other reached = elim (data_same view number pointer slot 0 stands sound relation place) [
    | inl same ↦ sym same ∙ reached
    | inr that ↦ let no : None ≡ Some other = sym none_now ∙ sym that.later ∙ reached in cc
  ]

  -- The data page had no version.
  versions : HaveSameVersions view unnaming
  versions = record {
    kept = λ relation place other cell version is. record {
      named = elim (data_same view number pointer slot 0 stands sound relation place) [
        | inl same ↦ same ∙ is.named
        | inr that ↦
            let none = allowed other (sym that.earlier ∙ is.named) cell version is.stands in
            let no : true ≡ false = sym none ∙ is.holds in
            cc
      ];
      stands = slot_cells view number pointer slot 0 stands other cell ∙ is.stands;
      holds = is.holds;
    };
    no_more = λ relation place other cell version is. record {
      named = names (DataRole relation place) other is.named;
      stands = sym (slot_cells view number pointer slot 0 stands other cell) ∙ is.stands;
      holds = is.holds;
    };
  }

  pages : HasSoundPages unnaming
  pages = record {
    fitting = fitting_after view unnaming sound names (slot_shown view number pointer slot 0 stands);
    taken = taken_after view unnaming sound names (λ role other reached was. slot_taken view number pointer slot 0 stands other ∙ was);
    states = λ place other at state reached.
        state_after view unnaming sound (slot_size view number pointer slot 0 stands) (le_of_eq (sym (slot_next view number pointer slot 0 stands))) (slot_states_in view number pointer slot 0 stands) place other at state (names (TipRole place) other reached);
  }

  pub unnamed_sound : IsSound unnaming
  unnamed_sound = sound_after view unnaming sound versions pages (le_of_eq (sym (slot_next view number pointer slot 0 stands))) (same_states_stay view unnaming (slot_states view number pointer slot 0 stands))

  pub unnamed_alike : ReadAlike view unnaming
  unnamed_alike = alike_after view unnaming sound versions (slot_cells_of view number pointer slot 0 stands) (slot_states view number pointer slot 0 stands)

  pub unnamed_lost : KeepsLostPages view unnaming
  unnamed_lost = lost_no_more view unnaming sound names (λ other taken. slot_taken view number pointer slot 0 stands other ∙ taken)

  pub unnamed_unreached : (page : ℕ) → ReachesPage view number → named_in (view number) slot ≡ Some page → ¬ ReachesPage unnaming page
  unnamed_unreached page reached named later =
      let size = size_is shape view of_shape sound in
      let fits : IsPointer shape.size pointer = of_shape.within number (kind.Pointer pointer) stands in
      let room : slot < slots (size_of view) = rw (size, sym fits.count) within in
      let that = that_slot view number pointer slot 0 stands sound reached room in
      let earlier = names later.0 page later.1 in
      let same = sound.once later.0 (DataRole pointer.relation (pointer.sequence * slots (size_of view) + slot)) page earlier (that.earlier ∙ named) in
      let no : None ≡ Some page = sym none_now ∙ sym that.later ∙ ap (page_for unnaming) (sym same) ∙ later.1 in
      cc
