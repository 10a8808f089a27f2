-- What a view names and reaches whose header, pointer page and data page are those of a small file.
use Rattle.std.proofs.Common.{◌≡◌, ◌<◌, ◌/◌, ◌%◌, ◌==◌, ◌&&◌, ◌||◌, ℕ, zero, suc, Bool, true, false, not, List, [], ◌∷◌, Some, None, inl, inr, refl, sym, ap, arith, slice_get, if◌then◌else◌}
use Rattle.std.specs.Prelude.{◌⊎◌, Contains, nat_lt, replicate, slice_index_or}
use Rattle.std.specs.List.{list_all}
use Rattle.std.specs.Option.{option_and_then}
use Rattle.std.proofs.lemmas.Bool.Decides.{nat_tests}
use Rattle.fbc_kinds.specs.declared.pages.Cell.{Cell}
use Rattle.fbc_kinds.specs.declared.pages.Header.{Header}
use Rattle.fbc_kinds.specs.declared.pages.Relation.{Relation}
use Rattle.fbc_kinds.specs.Reach.{DataRole, HeaderRole, InventoryRole, NamesBack, PointerRole, Reaches, ReachesCell, Role, TipRole}
use Rattle.fbc_kinds.specs.View.{View, cell_at, data_of, inventory_of, inventory_page, named_in, pointer_of, tip_of, unless_zero}
use Rattle.fbc_kinds.proofs.Heads.{both_pass}
use Rattle.fbc_legal.specs.Facts.{Names}
use Rattle.fbc_page_edits.specs.Facing.{IsLinked}
use Rattle.fbc_legal.specs.Traces.{IsNamed}
use Rattle.fbc_examples.specs.Files.{data_page, header, header_page, pointer_page, relation}

pub one_tip : (sequence page : ℕ) → slice_get (2 ∷ []) sequence ≡ Some page → (sequence ≡ 0) × (page ≡ 2)
one_tip zero page is = (refl, (let there : 2 ≡ page = cc in sym there))
one_tip (suc sequence) page is = cc

named_unless : (none : Bool) (first page : ℕ) → (if none then None else Some first) ≡ Some page → (none ≡ false) × (page ≡ first)
named_unless true first page is = cc
named_unless false first page is = (refl, (let there : first ≡ page = cc in sym there))

-- A list of one thing.
pub same_at : {X : Type 0} (count : ℕ) (only : X) (place : ℕ) (found : X) → slice_get (replicate count only) place ≡ Some found → found ≡ only
same_at zero only place found is = cc
same_at (suc count) only zero found is = let there : only ≡ found = cc in sym there
same_at (suc count) only (suc place) found is = same_at count only place found is

pub no_name : (count place page : ℕ) → option_and_then unless_zero (slice_get (replicate count 0) place) ≡ Some page → ⊥
no_name zero place page is = cc
no_name (suc count) zero page is = cc
no_name (suc count) (suc place) page is = no_name count place page is

named_slot : (first place page : ℕ) → option_and_then unless_zero (slice_get (first ∷ replicate 251 0) place) ≡ Some page → (place ≡ 0) × ((first == 0) ≡ false) × (page ≡ first)
named_slot first zero page is = let some = named_unless (first == 0) first page is in (refl, some.0, some.1)
named_slot first (suc place) page is = absurd (no_name 251 place page is)

any_slot : (first place page : ℕ) → slice_get (first ∷ replicate 251 0) place ≡ Some page → (page ≡ first) ⊎ (page ≡ 0)
any_slot first zero page is = inl (let there : first ≡ page = cc in sym there)
any_slot first (suc place) page is = inr (same_at 251 0 place page is)

pub one_relation : (number : ℕ) (entry : Relation) → slice_get (relation ∷ []) number ≡ Some entry → (number ≡ 0) × (entry ≡ relation)
one_relation zero entry is = (refl, (let there : relation ≡ entry = cc in sym there))
one_relation (suc number) entry is = cc

pub one_element : (only page place : ℕ) → place < 1 → slice_index_or (only ∷ []) place page ≡ page → page ≡ only
one_element only page zero below is = sym is
one_element only page (suc place) below is = absurd (omega arith)

contains_one : (pages : List ℕ) (only page : ℕ) → pages ≡ only ∷ [] → Contains pages page → page ≡ only
contains_one pages only page same contains = let one = rw same at contains in one_element only page one.0 one.1 one.2

pub header_names : (next page : ℕ) → Names (Some (header_page next)) page → (page ≡ 2) ⊎ (page ≡ 3)
header_names next page (Names.tip found is contains) =
    let same : header next ≡ found = cc in
    inl (contains_one found.tips 2 page (sym (ap (λ (h : Header). h.tips) same)) contains)
header_names next page (Names.pointer found number entry is at contains) =
    let same : header next ≡ found = cc in
    let there : slice_get (relation ∷ []) number ≡ Some entry = rw (← same) at at in
    inr (contains_one entry.pointers 3 page (ap (λ (r : Relation). r.pointers) (one_relation number entry there).1) contains)
header_names next page (Names.slot place is) = cc

pub pointer_names : (first page : ℕ) → Names (Some (pointer_page first)) page → (page ≡ first) ⊎ (page ≡ 0)
pointer_names first page (Names.tip found is contains) = cc
pointer_names first page (Names.pointer found number entry is at contains) = cc
pointer_names first page (Names.slot place is) = any_slot first place page is

module _ (view : View) (next first : ℕ) (at_header : view 0 ≡ Some (header_page next)) (at_pointer : view 3 ≡ Some (pointer_page first)) where
  pub tip_is : (sequence page : ℕ) → tip_of view sequence ≡ Some page → (sequence ≡ 0) × (page ≡ 2)
  tip_is sequence page is = one_tip sequence page (rw at_header at is)

  from_relation : (number sequence page : ℕ) → option_and_then (λ (entry : Relation). slice_get entry.pointers sequence) (slice_get (relation ∷ []) number) ≡ Some page → (number ≡ 0) × (sequence ≡ 0) × (page ≡ 3)
  from_relation zero zero page is = (refl, refl, (let there : 3 ≡ page = cc in sym there))
  from_relation zero (suc sequence) page is = cc
  from_relation (suc number) sequence page is = cc

  pub pointer_is : (number sequence page : ℕ) → pointer_of view number sequence ≡ Some page → (number ≡ 0) × (sequence ≡ 0) × (page ≡ 3)
  pointer_is number sequence page is = from_relation number sequence page (rw at_header at is)

  from_pointer : (number sequence place page : ℕ)
      → option_and_then (λ (pointer : ℕ). named_in (view pointer) place) (option_and_then (λ (entry : Relation). slice_get entry.pointers sequence) (slice_get (relation ∷ []) number)) ≡ Some page
      → (number ≡ 0) × (sequence ≡ 0) × (place ≡ 0) × ((first == 0) ≡ false) × (page ≡ first)
  from_pointer zero zero place page is = let slot = named_slot first place page (rw at_pointer at is) in (refl, refl, slot.0, slot.1, slot.2)
  from_pointer zero (suc sequence) place page is = cc
  from_pointer (suc number) sequence place page is = cc

  pub data_is : (number sequence page : ℕ) → data_of view number sequence ≡ Some page → (number ≡ 0) × (sequence ≡ 0) × ((first == 0) ≡ false) × (page ≡ first)
  data_is number sequence page is =
      let from = from_pointer number (sequence / 252) (sequence % 252) page (rw at_header at is) in
      (from.0, omega (arith, from.1, from.2), from.3, from.4)

  -- Nothing but these three is named.
  pub named : (page : ℕ) → IsNamed view page → (page ≡ 2) ⊎ (page ≡ 3) ⊎ (page ≡ first)
  named page (IsNamed.tip sequence is) = inl (tip_is sequence page is).1
  named page (IsNamed.pointer number sequence is) = inr (inl (pointer_is number sequence page is).2)
  named page (IsNamed.data_page number sequence is) = inr (inr (data_is number sequence page is).3)

-- Where the pages of a small file stand.
pub data IsPlace (first : ℕ) : Role → ℕ → Type 0 where
  header_place : IsPlace first HeaderRole 0
  inventory_place : IsPlace first (InventoryRole 0) 1
  tip_place : IsPlace first (TipRole 0) 2
  pointer_place : IsPlace first (PointerRole 0 0) 3
  data_place : (first == 0) ≡ false → IsPlace first (DataRole 0 0) first

pub one_inventory : (sequence page : ℕ) → (if nat_lt sequence 1 then Some (inventory_page 1024 sequence) else None) ≡ Some page → (sequence ≡ 0) × (page ≡ 1)
one_inventory zero page is = (refl, (let there : 1 ≡ page = cc in sym there))
one_inventory (suc sequence) page is = absurd (grind (arith, nat_tests, is))

module _ (view : View) (next first : ℕ) (at_header : view 0 ≡ Some (header_page next)) (at_pointer : view 3 ≡ Some (pointer_page first)) where
  pub inventory_is : (sequence page : ℕ) → inventory_of view sequence ≡ Some page → (sequence ≡ 0) × (page ≡ 1)
  inventory_is sequence page is = one_inventory sequence page (rw at_header at is)

  pub place_of : (role : Role) (page : ℕ) → Reaches view role page → IsPlace first role page
  place_of HeaderRole page is = let there : 0 ≡ page = cc in rw (← there) IsPlace.header_place
  place_of (InventoryRole sequence) page is = let found = inventory_is sequence page is in rw (found.0, found.1) IsPlace.inventory_place
  place_of (TipRole sequence) page is = let found = tip_is view next first at_header at_pointer sequence page is in rw (found.0, found.1) IsPlace.tip_place
  place_of (PointerRole number sequence) page is = let found = pointer_is view next first at_header at_pointer number sequence page is in rw (found.0, found.1, found.2) IsPlace.pointer_place
  place_of (DataRole number sequence) page is = let found = data_is view next first at_header at_pointer number sequence page is in rw (found.0, found.1, found.3) (IsPlace.data_place found.2)

-- A test that all of a list pass.
pub passes_at : {X : Type 0} (test : X → Bool) (xs : List X) (place : ℕ) (x : X) → list_all test xs ≡ true → slice_get xs place ≡ Some x → test x ≡ true
passes_at test [] place x all at = cc
passes_at test (one ∷ xs) zero x all at = let same : one ≡ x = cc in rw (← same) (both_pass (test one) (list_all test xs) all).0
passes_at test (one ∷ xs) (suc place) x all at = passes_at test xs place x (both_pass (test one) (list_all test xs) all).1 at

-- Whether a version names no cell of another page.
abbrev pub stays : Cell → Bool
stays version = (version.back_page == 0) || (version.back_page == 4)

-- Whether a version names another cell.
abbrev pub spares : ℕ → Cell → Bool
spares cell version = not ((version.back_page == 4) && (version.back_cell == cell))

back_at : (version : Cell) (page cell : ℕ) → stays version ≡ true → NamesBack version page cell → page ≡ 4
back_at version page cell near names = grind (arith, nat_tests, near, names.some, names.page_is)

not_spared : (version : Cell) (cell : ℕ) → spares cell version ≡ true → NamesBack version 4 cell → ⊥
not_spared version cell spared names = grind (arith, nat_tests, spared, names.page_is, names.cell_is)

module _ (view : View) (next : ℕ) (cells : List Cell) (at_header : view 0 ≡ Some (header_page next)) (at_pointer : view 3 ≡ Some (pointer_page 4))
    (at_data : view 4 ≡ Some (data_page cells)) (near : list_all stays cells ≡ true) where
  pub stands_in : (page cell : ℕ) (version : Cell) → page ≡ 4 → cell_at view page cell ≡ Some version → slice_get cells cell ≡ Some version
  stands_in page cell version there stands = let here : cell_at view 4 cell ≡ Some version = rw there at stands in rw at_data at here

  -- Cells of the data page alone are reached.
  pub reached : (number page cell : ℕ) → ReachesCell view number page cell → (number ≡ 0) × (page ≡ 4)
  reached number page cell (ReachesCell.top sequence _ _ version is stands top) = let found = data_is view next 4 at_header at_pointer number sequence page is in (found.0, found.3)
  reached number page cell (ReachesCell.along from from_cell _ _ version before stands names) =
      let held = reached number from from_cell before in
      (held.0, back_at version page cell (passes_at stays cells from_cell version near (stands_in from from_cell version held.1 stands)) names)

  -- A cell that no version names is not linked.
  pub not_linked : (cell : ℕ) → list_all (spares cell) cells ≡ true → IsLinked view 4 cell → ⊥
  not_linked cell all linked =
      not_spared linked.version cell
      (passes_at (spares cell) cells linked.from_cell linked.version all
      (stands_in linked.from_page linked.from_cell linked.version (reached linked.relation linked.from_page linked.from_cell linked.links.reached).1 linked.links.stands))
      linked.links.names
