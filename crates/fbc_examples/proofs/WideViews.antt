-- What a view names and reaches whose header is a small file's, and whose pointer page names two data pages.
use Rattle.std.proofs.Common.{◌≡◌, ◌/◌, ◌%◌, ◌==◌, ◌&&◌, ◌||◌, ℕ, zero, suc, Bool, true, false, not, List, [], ◌∷◌, Some, inl, inr, refl, sym, arith, slice_get}
use Rattle.std.specs.Prelude.{◌⊎◌, replicate}
use Rattle.std.specs.List.{list_all}
use Rattle.std.specs.Option.{option_and_then}
use Rattle.std.proofs.lemmas.Bool.Decides.{nat_tests}
use Rattle.fbc_kinds.specs.declared.pages.Cell.{Cell}
use Rattle.fbc_kinds.specs.declared.pages.Relation.{Relation}
use Rattle.fbc_kinds.specs.Reach.{DataRole, HeaderRole, InventoryRole, NamesBack, PointerRole, Reaches, ReachesCell, Role, TipRole}
use Rattle.fbc_kinds.specs.View.{View, cell_at, data_of, inventory_of, named_in, pointer_of, tip_of, unless_zero}
use Rattle.fbc_page_edits.specs.Facing.{IsLinked}
use Rattle.fbc_examples.specs.Files.{data_page, header_page, relation, second_data_page, wide_pointer_page}
use Rattle.fbc_examples.proofs.SmallViews.{no_name, one_inventory, one_tip, passes_at}

-- The one data page or the other.
abbrev pub IsOneOfTwo : ℕ → ℕ → Type 0
IsOneOfTwo sequence page = ((sequence ≡ 0) × (page ≡ 4)) ⊎ ((sequence ≡ 1) × (page ≡ 5))

wide_slot : (place page : ℕ) → option_and_then unless_zero (slice_get (4 ∷ 5 ∷ replicate 250 0) place) ≡ Some page → IsOneOfTwo place page
wide_slot zero page is = inl (refl, (let there : 4 ≡ page = cc in sym there))
wide_slot (suc zero) page is = inr (refl, (let there : 5 ≡ page = cc in sym there))
wide_slot (suc (suc place)) page is = absurd (no_name 250 place page is)

at_sequence : (sequence page : ℕ) → sequence / 252 ≡ 0 → IsOneOfTwo (sequence % 252) page → IsOneOfTwo sequence page
at_sequence sequence page whole (inl one) = inl (omega (arith, whole, one.0), one.1)
at_sequence sequence page whole (inr two) = inr (omega (arith, whole, two.0), two.1)

-- Where the pages of the file stand.
pub data IsWidePlace : Role → ℕ → Type 0 where
  header_place : IsWidePlace HeaderRole 0
  inventory_place : IsWidePlace (InventoryRole 0) 1
  tip_place : IsWidePlace (TipRole 0) 2
  pointer_place : IsWidePlace (PointerRole 0 0) 3
  first_place : IsWidePlace (DataRole 0 0) 4
  second_place : IsWidePlace (DataRole 0 1) 5

module _ (view : View) (next : ℕ) (at_header : view 0 ≡ Some (header_page next)) (at_pointer : view 3 ≡ Some wide_pointer_page) where
  pub wide_tip : (sequence page : ℕ) → tip_of view sequence ≡ Some page → (sequence ≡ 0) × (page ≡ 2)
  wide_tip sequence page is = one_tip sequence page (rw at_header at is)

  from_relation : (number sequence page : ℕ) → option_and_then (λ (entry : Relation). slice_get entry.pointers sequence) (slice_get (relation ∷ []) number) ≡ Some page → (number ≡ 0) × (sequence ≡ 0) × (page ≡ 3)
  from_relation zero zero page is = (refl, refl, (let there : 3 ≡ page = cc in sym there))
  from_relation zero (suc sequence) page is = cc
  from_relation (suc number) sequence page is = cc

  pub wide_pointer : (number sequence page : ℕ) → pointer_of view number sequence ≡ Some page → (number ≡ 0) × (sequence ≡ 0) × (page ≡ 3)
  wide_pointer number sequence page is = from_relation number sequence page (rw at_header at is)

  from_pointer : (number sequence place page : ℕ)
      → option_and_then (λ (pointer : ℕ). named_in (view pointer) place) (option_and_then (λ (entry : Relation). slice_get entry.pointers sequence) (slice_get (relation ∷ []) number)) ≡ Some page
      → (number ≡ 0) × (sequence ≡ 0) × IsOneOfTwo place page
  from_pointer zero zero place page is = (refl, refl, wide_slot place page (rw at_pointer at is))
  from_pointer zero (suc sequence) place page is = cc
  from_pointer (suc number) sequence place page is = cc

  pub wide_data : (number sequence page : ℕ) → data_of view number sequence ≡ Some page → (number ≡ 0) × IsOneOfTwo sequence page
  wide_data number sequence page is =
      let from = from_pointer number (sequence / 252) (sequence % 252) page (rw at_header at is) in
      (from.0, at_sequence sequence page from.1 from.2)

  wide_inventory : (sequence page : ℕ) → inventory_of view sequence ≡ Some page → (sequence ≡ 0) × (page ≡ 1)
  wide_inventory sequence page is = one_inventory sequence page (rw at_header at is)

  data_place : (number sequence page : ℕ) → number ≡ 0 → IsOneOfTwo sequence page → IsWidePlace (DataRole number sequence) page
  data_place number sequence page only (inl one) = rw (only, one.0, one.1) IsWidePlace.first_place
  data_place number sequence page only (inr two) = rw (only, two.0, two.1) IsWidePlace.second_place

  pub wide_place : (role : Role) (page : ℕ) → Reaches view role page → IsWidePlace role page
  wide_place HeaderRole page is = let there : 0 ≡ page = cc in rw (← there) IsWidePlace.header_place
  wide_place (InventoryRole sequence) page is = let found = wide_inventory sequence page is in rw (found.0, found.1) IsWidePlace.inventory_place
  wide_place (TipRole sequence) page is = let found = wide_tip sequence page is in rw (found.0, found.1) IsWidePlace.tip_place
  wide_place (PointerRole number sequence) page is = let found = wide_pointer number sequence page is in rw (found.0, found.1, found.2) IsWidePlace.pointer_place
  wide_place (DataRole number sequence) page is = let found = wide_data number sequence page is in data_place number sequence page found.0 found.1

-- Whether a version names no cell of any other page than these two.
abbrev pub stays_within : Cell → Bool
stays_within version = (version.back_page == 0) || (version.back_page == 4) || (version.back_page == 5)

-- Whether a version names another cell.
abbrev pub spares_cell : ℕ → ℕ → Cell → Bool
spares_cell page cell version = not ((version.back_page == page) && (version.back_cell == cell))

within : (version : Cell) (page cell : ℕ) → stays_within version ≡ true → NamesBack version page cell → (page ≡ 4) ⊎ (page ≡ 5)
within version page cell near names = go (version.back_page == 4) refl where
  go : (first : Bool) → version.back_page == 4 ≡ first → (page ≡ 4) ⊎ (page ≡ 5)
  go true is = inl (grind (arith, nat_tests, is, names.page_is))
  go false is = inr (grind (arith, nat_tests, near, is, names.some, names.page_is))

not_spared : (version : Cell) (page cell : ℕ) → spares_cell page cell version ≡ true → NamesBack version page cell → ⊥
not_spared version page cell spared names = grind (arith, nat_tests, spared, names.page_is, names.cell_is)

module _ (view : View) (next : ℕ) (cells others : List Cell) (at_header : view 0 ≡ Some (header_page next)) (at_pointer : view 3 ≡ Some wide_pointer_page)
    (at_first : view 4 ≡ Some (data_page cells)) (at_second : view 5 ≡ Some (second_data_page others))
    (near : list_all stays_within cells ≡ true) (others_near : list_all stays_within others ≡ true) where
  pub stands_first : (page cell : ℕ) (version : Cell) → page ≡ 4 → cell_at view page cell ≡ Some version → slice_get cells cell ≡ Some version
  stands_first page cell version there stands = let here : cell_at view 4 cell ≡ Some version = rw there at stands in rw at_first at here

  pub stands_second : (page cell : ℕ) (version : Cell) → page ≡ 5 → cell_at view page cell ≡ Some version → slice_get others cell ≡ Some version
  stands_second page cell version there stands = let here : cell_at view 5 cell ≡ Some version = rw there at stands in rw at_second at here

  page_of : (sequence page : ℕ) → IsOneOfTwo sequence page → (page ≡ 4) ⊎ (page ≡ 5)
  page_of sequence page (inl one) = inl one.1
  page_of sequence page (inr two) = inr two.1

  near_at : (page cell : ℕ) (version : Cell) → (page ≡ 4) ⊎ (page ≡ 5) → cell_at view page cell ≡ Some version → stays_within version ≡ true
  near_at page cell version (inl first) stands = passes_at stays_within cells cell version near (stands_first page cell version first stands)
  near_at page cell version (inr second) stands = passes_at stays_within others cell version others_near (stands_second page cell version second stands)

  -- Cells of the two data pages alone are reached.
  pub wide_reached : (number page cell : ℕ) → ReachesCell view number page cell → (number ≡ 0) × ((page ≡ 4) ⊎ (page ≡ 5))
  wide_reached number page cell (ReachesCell.top sequence _ _ version is stands top) =
      let found = wide_data view next at_header at_pointer number sequence page is in (found.0, page_of sequence page found.1)
  wide_reached number page cell (ReachesCell.along from from_cell _ _ version before stands names) =
      let held = wide_reached number from from_cell before in
      (held.0, within version page cell (near_at from from_cell version held.1 stands) names)

  -- A cell that no version names is not linked.
  pub far_unlinked : (page cell : ℕ) → list_all (spares_cell page cell) cells ≡ true → list_all (spares_cell page cell) others ≡ true → IsLinked view page cell → ⊥
  far_unlinked page cell all also linked = go (wide_reached linked.relation linked.from_page linked.from_cell linked.links.reached).1 where
    go : (linked.from_page ≡ 4) ⊎ (linked.from_page ≡ 5) → ⊥
    go (inl first) =
        not_spared linked.version page cell
        (passes_at (spares_cell page cell) cells linked.from_cell linked.version all (stands_first linked.from_page linked.from_cell linked.version first linked.links.stands))
        linked.links.names
    go (inr second) =
        not_spared linked.version page cell
        (passes_at (spares_cell page cell) others linked.from_cell linked.version also (stands_second linked.from_page linked.from_cell linked.version second linked.links.stands))
        linked.links.names
