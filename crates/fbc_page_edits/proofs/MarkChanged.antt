-- A view with one mark of a page inventory changed: it names and holds the same.
use Rattle.std.proofs.Common.{◌≡◌, ◌⊎◌, ◌≤◌, ◌%◌, ℕ, Bool, set, slice_get, Option, Some, le_of_eq, inl, inr, refl, sym, ap, ◌∙◌}
use Rattle.std.proofs.lemmas.Bool.{cases_eq}
use Rattle.fbc_kinds.specs.declared.pages.Inventory.{Inventory}
use Rattle.fbc_kinds.specs.declared.pages.Page.{Page}
use Rattle.fbc_kinds.specs.declared.pages.Page.TheVariants as kind
use Rattle.fbc_kinds.specs.Edits.{with_mark}
use Rattle.fbc_kinds.specs.Limits.{inventory_bits}
use Rattle.fbc_kinds.specs.Reach.{DataRole, HeaderRole, InventoryRole, PointerRole, Role, TipRole, has_role, shows_role}
use Rattle.fbc_kinds.specs.Sound.{IsSound}
use Rattle.fbc_kinds.specs.View.{View, cell_in, header_in, mark_in, next_of, slot_in, state_in}
use Rattle.fbc_kinds.proofs.EditLimits.{slice_get-set_other}
use Rattle.fbc_page_edits.specs.Alike.{ReadAlike}
use Rattle.fbc_page_edits.specs.Edited.{with_page}
use Rattle.fbc_page_edits.proofs.Changed.{changed_elsewhere, changed_here, read_alike}
use Rattle.fbc_page_edits.proofs.PagesAfter.{KeepTaken, NamesNoMore, ShowRoles, fitting_after, state_after, taken_after}
use Rattle.fbc_page_edits.proofs.SameNames.{HaveSameNames, same_cells_of, same_next, same_page_for, same_size, same_states}
use Rattle.fbc_page_edits.proofs.SameVersions.{HaveSameVersions, versions_same}
use Rattle.fbc_page_edits.proofs.SoundAfter.{HasSoundPages, alike_after, same_states_stay, sound_after}

same_inventory_role : (role : Role) (number : ℕ) (inventory : Inventory) (size page : ℕ) (taken : Bool) → has_role role number (kind.Inventory (with_mark size page taken inventory)) ≡ has_role role number (kind.Inventory inventory)
same_inventory_role HeaderRole number inventory size page taken = refl
same_inventory_role (InventoryRole sequence) number inventory size page taken = refl
same_inventory_role (TipRole sequence) number inventory size page taken = refl
same_inventory_role (PointerRole relation sequence) number inventory size page taken = refl
same_inventory_role (DataRole relation sequence) number inventory size page taken = refl

module _ (view : View) (number : ℕ) (inventory : Inventory) (size page : ℕ) (taken : Bool) (stands : view number ≡ Some (kind.Inventory inventory)) where
  abbrev content : Page
  content = kind.Inventory (with_mark size page taken inventory)

  abbrev pub with_mark_of : View
  with_mark_of = with_page view number content

  pub mark_names : HaveSameNames view with_mark_of
  mark_names = record {
    header = read_alike view number content (λ _ (o : Option Page). header_in o) (rw stands refl) 0;
    slots = λ other slot. read_alike view number content (λ _ (o : Option Page). slot_in o slot) (rw stands refl) other;
  }

  mark_cells : (other cell : ℕ) → cell_in (with_mark_of other) cell ≡ cell_in (view other) cell
  mark_cells other cell = read_alike view number content (λ _ (o : Option Page). cell_in o cell) (rw stands refl) other

  mark_states : (other place : ℕ) → state_in (with_mark_of other) place ≡ state_in (view other) place
  mark_states other place = read_alike view number content (λ _ (o : Option Page). state_in o place) (rw stands refl) other

  mark_shown : ShowRoles view with_mark_of
  mark_shown role other = read_alike view number content (λ (n : ℕ) (o : Option Page). shows_role role n o) (rw stands (same_inventory_role role number inventory size page taken)) other

  -- A mark is that of the page, or stays.
  pub marks : (other place : ℕ) → (mark_in (with_mark_of other) place ≡ mark_in (view other) place) ⊎ ((other ≡ number) × (place ≡ page % inventory_bits size))
  marks other place = elim (cases_eq other number) [
    | inr differ ↦ inl (ap (λ (o : Option Page). mark_in o place) (changed_elsewhere view number content other differ))
    | inl same ↦ elim (cases_eq place (page % inventory_bits size)) [
      | inl here ↦ inr (same, here)
      | inr there ↦ inl (rw same
          (ap (λ (o : Option Page). mark_in o place) (changed_here view number content)
          ∙ slice_get-set_other inventory.taken (page % inventory_bits size) place taken there
          ∙ sym (ap (λ (o : Option Page). mark_in o place) stands)))
    ]
  ]

  pub changed_mark : mark_in (with_mark_of number) (page % inventory_bits size) ≡ slice_get (set inventory.taken (page % inventory_bits size) taken) (page % inventory_bits size)
  changed_mark = ap (λ (o : Option Page). mark_in o (page % inventory_bits size)) (changed_here view number content)

  pub mark_no_more : NamesNoMore view with_mark_of
  mark_no_more role other reached = sym (same_page_for view with_mark_of mark_names role) ∙ reached

  mark_versions : HaveSameVersions view with_mark_of
  mark_versions = versions_same view with_mark_of (λ relation sequence. same_page_for view with_mark_of mark_names (DataRole relation sequence)) mark_cells

  module _ (sound : IsSound view) where
    pub mark_alike : ReadAlike view with_mark_of
    mark_alike = alike_after view with_mark_of sound mark_versions (same_cells_of view with_mark_of mark_names) (same_states view with_mark_of mark_names mark_states)

    module _ (kept : KeepTaken view with_mark_of) where
      next_kept : next_of view ≤ next_of with_mark_of
      next_kept = le_of_eq (sym (same_next view with_mark_of mark_names))

      mark_pages : HasSoundPages with_mark_of
      mark_pages = record {
        fitting = fitting_after view with_mark_of sound mark_no_more mark_shown;
        taken = taken_after view with_mark_of sound mark_no_more kept;
        states = λ sequence other place state reached.
            state_after view with_mark_of sound (same_size view with_mark_of mark_names) next_kept mark_states sequence other place state (mark_no_more (TipRole sequence) other reached);
      }

      pub mark_sound : IsSound with_mark_of
      mark_sound = sound_after view with_mark_of sound mark_versions mark_pages next_kept (same_states_stay view with_mark_of (same_states view with_mark_of mark_names mark_states))
