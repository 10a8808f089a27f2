-- Two views with one header whose pages have the same slots name the same pages.
use Rattle.std.proofs.Common.{◌≡◌, ℕ, Option, refl, ap}
use Rattle.std.specs.Option.{option_map_or}
use Rattle.fbc_kinds.specs.declared.pages.Header.{Header}
use Rattle.fbc_kinds.specs.Chain.{cells_of, state_of}
use Rattle.fbc_kinds.specs.Reach.{Role, HeaderRole, InventoryRole, TipRole, PointerRole, DataRole, ReachesPage, page_for}
use Rattle.fbc_kinds.specs.View.{View, header_of, is_taken, mark_in, next_of, size_of, slot_in, state_in}

-- Two views have one header, and the same slots in each page.
pub record HaveSameNames (before after : View) : Type 0 where
  pub header : header_of after ≡ header_of before
  pub slots : (page slot : ℕ) → slot_in (after page) slot ≡ slot_in (before page) slot

module _ (before after : View) (same : HaveSameNames before after) where
  pub same_size : size_of after ≡ size_of before
  same_size = ap (λ (o : Option Header). option_map_or (λ (h : Header). h.size) o 0) same.header

  pub same_next : next_of after ≡ next_of before
  same_next = ap (λ (o : Option Header). option_map_or (λ (h : Header). h.next) o 0) same.header

  pub same_cells_of : (relation : ℕ) → cells_of after relation ≡ cells_of before relation
  same_cells_of relation = rw same.header refl

  pub same_page_for : (role : Role) → page_for after role ≡ page_for before role
  same_page_for HeaderRole = refl
  same_page_for (InventoryRole sequence) = rw same.header refl
  same_page_for (TipRole sequence) = rw same.header refl
  same_page_for (PointerRole relation sequence) = rw same.header refl
  same_page_for (DataRole relation sequence) = rw same.header (simp same.slots)

  pub same_reach : (page : ℕ) → ReachesPage after page → ReachesPage before page
  same_reach page reached = (reached.0, rw (same_page_for reached.0) at reached.1)

  pub same_taken : ((page place : ℕ) → mark_in (after page) place ≡ mark_in (before page) place) → (page : ℕ) → is_taken after page ≡ is_taken before page
  same_taken marks page = rw same.header (simp marks)

  pub same_states : ((page place : ℕ) → state_in (after page) place ≡ state_in (before page) place) → (number : ℕ) → state_of after number ≡ state_of before number
  same_states states number = rw same.header (simp states)
