-- A view with another header at page 0: its other pages stay, and its places.
use Rattle.std.proofs.Common.{◌≡◌, ◌⊎◌, ℕ, Option, Some, inl, inr, refl}
use Rattle.std.proofs.lemmas.Option.{same_Some}
use Rattle.fbc_kinds.specs.declared.pages.Header.{Header}
use Rattle.fbc_kinds.specs.declared.pages.Page.{Page}
use Rattle.fbc_kinds.specs.declared.pages.Page.TheVariants as kind
use Rattle.fbc_kinds.specs.Chain.{cells_of}
use Rattle.fbc_kinds.specs.Reach.{DataRole, HeaderRole, InventoryRole, PointerRole, ReachesPage, Role, TipRole, has_role, shows_role}
use Rattle.fbc_kinds.specs.Sound.{IsSound}
use Rattle.fbc_kinds.specs.View.{View, cell_in, data_of, inventory_of, is_taken, mark_in, pointer_of, slot_in, state_in, tip_of}
use Rattle.fbc_page_edits.specs.Alike.{HaveSameStates}
use Rattle.fbc_page_edits.specs.Edited.{with_page}
use Rattle.fbc_page_edits.proofs.Changed.{read_alike}
use Rattle.fbc_page_edits.proofs.ReachedRoles.{reached_or_not}
use Rattle.fbc_page_edits.proofs.SameVersions.{HaveSameVersions, versions_same}

-- A header is reached at page 0 only.
pub header_or_unreached : (view : View) (number : ℕ) (header : Header) → IsSound view → view number ≡ Some (kind.Header header) → (0 ≡ number) ⊎ ¬ ReachesPage view number
header_or_unreached view number header sound stands = elim (reached_or_not view sound number (kind.Header header) stands) [ inl here ↦ inl (same_Some 0 number here) | inr off ↦ inr off ]

same_header_role : (role : Role) (number : ℕ) (old new : Header) → has_role role number (kind.Header new) ≡ has_role role number (kind.Header old)
same_header_role HeaderRole number old new = refl
same_header_role (InventoryRole sequence) number old new = refl
same_header_role (TipRole sequence) number old new = refl
same_header_role (PointerRole relation sequence) number old new = refl
same_header_role (DataRole relation sequence) number old new = refl

module _ (view : View) (old new : Header) (stands : view 0 ≡ Some (kind.Header old)) where
  abbrev pub with_header : View
  with_header = with_page view 0 (kind.Header new)

  pub header_slots : (page slot : ℕ) → slot_in (with_header page) slot ≡ slot_in (view page) slot
  header_slots page slot = read_alike view 0 (kind.Header new) (λ _ (o : Option Page). slot_in o slot) (rw stands refl) page

  pub header_cells : (page cell : ℕ) → cell_in (with_header page) cell ≡ cell_in (view page) cell
  header_cells page cell = read_alike view 0 (kind.Header new) (λ _ (o : Option Page). cell_in o cell) (rw stands refl) page

  pub header_marks : (page place : ℕ) → mark_in (with_header page) place ≡ mark_in (view page) place
  header_marks page place = read_alike view 0 (kind.Header new) (λ _ (o : Option Page). mark_in o place) (rw stands refl) page

  pub header_states : (page place : ℕ) → state_in (with_header page) place ≡ state_in (view page) place
  header_states page place = read_alike view 0 (kind.Header new) (λ _ (o : Option Page). state_in o place) (rw stands refl) page

  pub header_shown : (role : Role) (page : ℕ) → shows_role role page (with_header page) ≡ shows_role role page (view page)
  header_shown role page = read_alike view 0 (kind.Header new) (λ (number : ℕ) (o : Option Page). shows_role role number o) (rw stands (same_header_role role 0 old new)) page

  -- With the same relations it names the same pointer pages and data pages.
  module _ (size : new.size ≡ old.size) (relations : new.relations ≡ old.relations) where
    pub header_pointer_of : (relation sequence : ℕ) → pointer_of with_header relation sequence ≡ pointer_of view relation sequence
    header_pointer_of relation sequence = rw (stands, relations) refl

    pub header_data_of : (relation sequence : ℕ) → data_of with_header relation sequence ≡ data_of view relation sequence
    header_data_of relation sequence = simp header_slots (rw (stands, size, relations) refl)

    pub header_cells_of : (relation : ℕ) → cells_of with_header relation ≡ cells_of view relation
    header_cells_of relation = rw (stands, size, relations) refl

    pub header_versions : HaveSameVersions view with_header
    header_versions = versions_same view with_header header_data_of header_cells

  -- With the same transaction inventory pages all numbers are in the same states.
  module _ (size : new.size ≡ old.size) (tips : new.tips ≡ old.tips) where
    pub header_tip_of : (sequence : ℕ) → tip_of with_header sequence ≡ tip_of view sequence
    header_tip_of sequence = rw (stands, tips) refl

    pub header_states_of : HaveSameStates view with_header
    header_states_of number = simp header_states (rw (stands, size, tips) refl)

  -- With as many page inventories the same pages are taken.
  module _ (size : new.size ≡ old.size) (inventories : new.inventories ≡ old.inventories) where
    pub header_inventory_of : (sequence : ℕ) → inventory_of with_header sequence ≡ inventory_of view sequence
    header_inventory_of sequence = rw (stands, size, inventories) refl

    pub header_taken : (page : ℕ) → is_taken with_header page ≡ is_taken view page
    header_taken page = simp header_marks (rw (stands, size, inventories) refl)
