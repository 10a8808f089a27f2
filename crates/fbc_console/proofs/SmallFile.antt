-- A small file: one relation with one pointer page and at most one data page. What its pages name, and that it is sound.
use Rattle.std.proofs.Common.{◌≡◌, ◌≤◌, ◌<◌, ◌+◌, ◌*◌, ◌/◌, ◌%◌, ◌-◌, ◌⊎◌, inl, inr, ℕ, zero, suc, List, [], ◌∷◌, length, slice_get, slice_index_or, Bool, true, false, Some, None, refl, ap, sym, subst, ◌∙◌, arith}
use Rattle.std.specs.Prelude.{◌==◌, nat_lt, Option, map, replicate}
use Rattle.std.specs.List.{All}
use Rattle.std.specs.Option.{option_and_then}
use Rattle.std.proofs.lemmas.Bool.Decides.{nat_tests}
use Rattle.std.proofs.lemmas.List.Elements.{All-replicate, All-append, All-map}
use Rattle.std.proofs.lemmas.Option.{slice_get_within, get_or_from_slice_get}
use Rattle.fbc_kinds.specs.declared.pages.Page.{Page}
use Rattle.fbc_kinds.specs.declared.pages.Page.TheVariants as kind
use Rattle.fbc_kinds.specs.declared.pages.Header.{Header}
use Rattle.fbc_kinds.specs.declared.pages.Cell.{Cell}
use Rattle.fbc_kinds.specs.declared.pages.State.{State}
use Rattle.fbc_kinds.specs.DataSpelling.{empty_cell}
use Rattle.fbc_kinds.specs.View.{View, cell_at, cell_in, state_in, named_in, unless_zero, is_taken, is_marked, is_empty, is_active_state}
use Rattle.fbc_kinds.specs.Reach.{Role, HeaderRole, InventoryRole, TipRole, PointerRole, DataRole, Reaches, page_for, shows_role, LinksTo}
use Rattle.fbc_kinds.specs.Sound.{IsSound}
use Rattle.fbc_files.specs.Pages.{listed_view}
use Rattle.fbc_console.specs.FreshFile.{fresh_relation, cells_of, filled_data, inserted_cell}

-- What such a file holds: the next transaction number, the marks, the states, the slots, and the pages from page 4 on.
pub record Small : Type 0 where
  pub next : ℕ
  pub taken : List Bool
  pub states : List State
  pub slots : List ℕ
  pub last : List Page

abbrev pub header_with : ℕ → Header
header_with next = record { size = 1024; next = next; inventories = 1; oldest = 0; relations = fresh_relation ∷ []; tips = 2 ∷ [] }

-- Its pages behind the header, and all of them.
abbrev pub tail_of : Small → List Page
tail_of s =
    kind.Inventory (record { page = 1; sequence = 0; taken = s.taken })
    ∷ kind.Tip (record { page = 2; sequence = 0; states = s.states })
    ∷ kind.Pointer (record { page = 3; relation = 0; sequence = 0; slots = s.slots })
    ∷ s.last

abbrev pub pages_of : Small → List Page
pages_of s = kind.Header (header_with s.next) ∷ tail_of s

abbrev pub view_of : Small → View
view_of s = listed_view (pages_of s)

-- What a slot names.
abbrev pub named_at : List ℕ → ℕ → Option ℕ
named_at slots slot = option_and_then unless_zero (slice_get slots slot)

-- There is no page 4, or it holds values of transaction 1, which has begun.
pub data LastPage (s : Small) : Type 0 where
  missing : s.last ≡ [] → LastPage s
  holding : (values : List (List ℕ)) → s.last ≡ kind.Data (filled_data values) ∷ [] → 1 < s.next → LastPage s

-- No slot names a page.
pub record HasNoData (s : Small) (values : List (List ℕ)) (count : ℕ) : Type 0 where
  pub unnamed : (slot : ℕ) → named_at s.slots slot ≡ None
  pub no_values : values ≡ []
  pub four : count ≡ 4

-- Page 4 holds values, the first slot alone names it, and it is taken.
pub record HasData (s : Small) (values : List (List ℕ)) (count : ℕ) : Type 0 where
  pub held : s.last ≡ kind.Data (filled_data values) ∷ []
  pub named : named_at s.slots 0 ≡ Some 4
  pub unnamed : (slot : ℕ) → named_at s.slots (suc slot) ≡ None
  pub marked : slice_get s.taken 4 ≡ Some true
  pub room : length values ≤ 45
  pub five : count ≡ 5

-- A small file whose pages in use are the first so many, and whose rows have these values.
pub record IsSmall (s : Small) (values : List (List ℕ)) (count : ℕ) : Type 0 where
  pub marks : (page : ℕ) → page < 4 → slice_get s.taken page ≡ Some true
  pub begun_only : (place : ℕ) (state : State) → slice_get s.states place ≡ Some state → is_active_state state ≡ false → place < s.next
  pub last_page : LastPage s
  pub data_page : HasNoData s values count ⊎ HasData s values count

-- The role that the page of a number has.
abbrev pub role_at : ℕ → Role
role_at zero = HeaderRole
role_at (suc zero) = InventoryRole 0
role_at (suc (suc zero)) = TipRole 0
role_at (suc (suc (suc zero))) = PointerRole 0 0
role_at (suc (suc (suc (suc page)))) = DataRole 0 0

-- A page in use has its own role.
pub record IsUsed (count : ℕ) (role : Role) (page : ℕ) : Type 0 where
  pub role_is : role ≡ role_at page
  pub within : page < count

-- A cell holds nothing, or a version of number 1 without a back version.
pub record IsPlain (version : Cell) : Type 0 where
  pub no_back : version.back_page ≡ 0
  pub first : is_empty version.flag ≡ false → version.number ≡ 1

plain_cells : (count : ℕ) (values : List (List ℕ)) → All IsPlain (cells_of count values)
unfolding cells_of
plain_cells count values =
    All-append IsPlain (map inserted_cell values) (replicate (count - length values) empty_cell)
    (All-map IsPlain inserted_cell values (λ k d within. record { no_back = refl; first = λ _. refl }))
    (All-replicate IsPlain (count - length values) empty_cell (record { no_back = refl; first = λ e. let no : ⊥ = cc in absurd no }))

plain_at : (cells : List Cell) → All IsPlain cells → (i : ℕ) (version : Cell) → slice_get cells i ≡ Some version → IsPlain version
plain_at cells all i version is = subst IsPlain (get_or_from_slice_get cells i version version is) (all i version (slice_get_within cells i version is))

not_below_one : (k : ℕ) → nat_lt (suc k) 1 ≡ false
not_below_one k = grind (arith, nat_tests)

-- A data page that is named.
pub record IsNamed (count q slot page : ℕ) : Type 0 where
  pub first_pointer : q ≡ 0
  pub first_slot : slot ≡ 0
  pub four : page ≡ 4
  pub within : 4 < count

module _ (s : Small) (values : List (List ℕ)) (count : ℕ) where
  four_used : HasNoData s values count ⊎ HasData s values count → (page : ℕ) → page < 4 → page < count
  four_used (inl none) page low = omega (arith, low, none.four)
  four_used (inr some) page low = omega (arith, low, some.five)

  named_first : HasNoData s values count ⊎ HasData s values count → (page : ℕ) → named_at s.slots 0 ≡ Some page → IsNamed count 0 0 page
  named_first (inl none) page is = let e : None ≡ Some page = sym (none.unnamed 0) ∙ is in let no : ⊥ = cc in absurd no
  named_first (inr some) page is =
      let e : Some 4 ≡ Some page = sym some.named ∙ is in
      record { first_pointer = refl; first_slot = refl; four = cc; within = omega (arith, some.five) }

  unnamed_later : HasNoData s values count ⊎ HasData s values count → (slot page : ℕ) → named_at s.slots (suc slot) ≡ Some page → ⊥
  unnamed_later (inl none) slot page is = let e : None ≡ Some page = sym (none.unnamed (suc slot)) ∙ is in cc
  unnamed_later (inr some) slot page is = let e : None ≡ Some page = sym (some.unnamed slot) ∙ is in cc

  named_by : HasNoData s values count ⊎ HasData s values count → (q slot page : ℕ) → option_and_then (λ (pointer : ℕ). named_in (view_of s pointer) slot) (slice_get (3 ∷ []) q) ≡ Some page → IsNamed count q slot page
  named_by holds zero zero page is = named_first holds page is
  named_by holds zero (suc slot) page is = absurd (unnamed_later holds slot page is)
  named_by holds (suc q) slot page is = let no : ⊥ = cc in absurd no

  data_used : (sequence page : ℕ) → IsNamed count (sequence / 252) (sequence % 252) page → IsUsed count (DataRole 0 sequence) page
  data_used sequence page named =
      let first : 0 ≡ sequence = omega (arith, named.first_pointer, named.first_slot) in
      subst (λ q. IsUsed count (DataRole 0 q) page) first
      (subst (IsUsed count (DataRole 0 0)) (sym named.four) (record { role_is = refl; within = named.within }))

module _ (s : Small) (values : List (List ℕ)) (count : ℕ) (small : IsSmall s values count) where
  used_below : (page : ℕ) → page < 4 → page < count
  used_below page low = four_used s values count small.data_page page low

  used_inventory : (sequence page : ℕ) → page_for (view_of s) (InventoryRole sequence) ≡ Some page → IsUsed count (InventoryRole sequence) page
  used_inventory zero page is = let e : 1 ≡ page = cc in subst (IsUsed count (InventoryRole 0)) e (record { role_is = refl; within = used_below 1 (omega arith) })
  used_inventory (suc k) page is = let past : nat_lt (suc k) 1 ≡ false = not_below_one k in let no : ⊥ = grind (arith, past, is) in absurd no

  used_tip : (sequence page : ℕ) → page_for (view_of s) (TipRole sequence) ≡ Some page → IsUsed count (TipRole sequence) page
  used_tip zero page is = let e : 2 ≡ page = cc in subst (IsUsed count (TipRole 0)) e (record { role_is = refl; within = used_below 2 (omega arith) })
  used_tip (suc k) page is = let no : ⊥ = cc in absurd no

  used_pointer : (relation sequence page : ℕ) → page_for (view_of s) (PointerRole relation sequence) ≡ Some page → IsUsed count (PointerRole relation sequence) page
  used_pointer zero zero page is = let e : 3 ≡ page = cc in subst (IsUsed count (PointerRole 0 0)) e (record { role_is = refl; within = used_below 3 (omega arith) })
  used_pointer zero (suc k) page is = let no : ⊥ = cc in absurd no
  used_pointer (suc relation) sequence page is = let no : ⊥ = cc in absurd no

  used_data : (relation sequence page : ℕ) → page_for (view_of s) (DataRole relation sequence) ≡ Some page → IsUsed count (DataRole relation sequence) page
  used_data zero sequence page is = data_used s values count sequence page (named_by s values count small.data_page (sequence / 252) (sequence % 252) page is)
  used_data (suc relation) sequence page is = let no : ⊥ = cc in absurd no

  pub used : (role : Role) (page : ℕ) → Reaches (view_of s) role page → IsUsed count role page
  used HeaderRole page is = let e : 0 ≡ page = cc in subst (IsUsed count HeaderRole) e (record { role_is = refl; within = used_below 0 (omega arith) })
  used (InventoryRole sequence) page is = used_inventory sequence page is
  used (TipRole sequence) page is = used_tip sequence page is
  used (PointerRole relation sequence) page is = used_pointer relation sequence page is
  used (DataRole relation sequence) page is = used_data relation sequence page is

  last_fits : HasNoData s values count ⊎ HasData s values count → 4 < count → shows_role (DataRole 0 0) 4 (view_of s 4) ≡ true
  last_fits (inl none) within = absurd (omega (arith, within, none.four))
  last_fits (inr some) within = ap (λ (last : List Page). shows_role (DataRole 0 0) 4 (Some (slice_index_or last 0 kind.Blank))) some.held

  fits_at : (page : ℕ) → page < count → shows_role (role_at page) page (view_of s page) ≡ true
  fits_at zero within = refl
  fits_at (suc zero) within = refl
  fits_at (suc (suc zero)) within = refl
  fits_at (suc (suc (suc zero))) within = refl
  fits_at (suc (suc (suc (suc zero)))) within = last_fits small.data_page within
  fits_at (suc (suc (suc (suc (suc page))))) within = absurd (past small.data_page)
    where
      past : HasNoData s values count ⊎ HasData s values count → ⊥
      past (inl none) = omega (arith, within, none.four)
      past (inr some) = omega (arith, within, some.five)

  last_marked : HasNoData s values count ⊎ HasData s values count → 4 < count → slice_get s.taken 4 ≡ Some true
  last_marked (inl none) within = absurd (omega (arith, within, none.four))
  last_marked (inr some) within = some.marked

  taken_at : (page : ℕ) → page < count → is_taken (view_of s) page ≡ true
  taken_at zero within = ap is_marked (small.marks 0 (omega arith))
  taken_at (suc zero) within = ap is_marked (small.marks 1 (omega arith))
  taken_at (suc (suc zero)) within = ap is_marked (small.marks 2 (omega arith))
  taken_at (suc (suc (suc zero))) within = ap is_marked (small.marks 3 (omega arith))
  taken_at (suc (suc (suc (suc zero)))) within = ap is_marked (last_marked small.data_page within)
  taken_at (suc (suc (suc (suc (suc page))))) within = absurd (past small.data_page)
    where
      past : HasNoData s values count ⊎ HasData s values count → ⊥
      past (inl none) = omega (arith, within, none.four)
      past (inr some) = omega (arith, within, some.five)

  last_plain : LastPage s → (place cell : ℕ) (version : Cell) → cell_in (Some (slice_index_or s.last place kind.Blank)) cell ≡ Some version → IsPlain version × (1 < s.next)
  last_plain (missing none) place cell version is =
      let e : None ≡ Some version = sym (ap (λ (last : List Page). cell_in (Some (slice_index_or last place kind.Blank)) cell) none) ∙ is in let no : ⊥ = cc in absurd no
  last_plain (holding stored held begun) zero cell version is =
      let e : slice_get (cells_of 45 stored) cell ≡ Some version = sym (ap (λ (last : List Page). cell_in (Some (slice_index_or last 0 kind.Blank)) cell) held) ∙ is in
      (plain_at (cells_of 45 stored) (plain_cells 45 stored) cell version e, begun)
  last_plain (holding stored held begun) (suc place) cell version is =
      let e : None ≡ Some version = sym (ap (λ (last : List Page). cell_in (Some (slice_index_or last (suc place) kind.Blank)) cell) held) ∙ is in let no : ⊥ = cc in absurd no

  plain : (page cell : ℕ) (version : Cell) → cell_at (view_of s) page cell ≡ Some version → IsPlain version × (1 < s.next)
  plain zero cell version is = let no : ⊥ = cc in absurd no
  plain (suc zero) cell version is = let no : ⊥ = cc in absurd no
  plain (suc (suc zero)) cell version is = let no : ⊥ = cc in absurd no
  plain (suc (suc (suc zero))) cell version is = let no : ⊥ = cc in absurd no
  plain (suc (suc (suc (suc place)))) cell version is = last_plain small.last_page place cell version is

  no_links : (relation page cell back_page back_cell : ℕ) (version : Cell) → LinksTo (view_of s) relation page cell version back_page back_cell → ⊥
  no_links relation page cell back_page back_cell version link =
      let no_back : version.back_page ≡ 0 = (plain page cell version link.stands).0.no_back in
      let named : (version.back_page == 0) ≡ false = link.names.some in
      let zero_named : (0 == 0) ≡ false = subst (λ n. (n == 0) ≡ false) no_back named in
      cc

  states_at : (sequence page place : ℕ) (state : State) → IsUsed count (TipRole sequence) page → state_in (view_of s page) place ≡ Some state → is_active_state state ≡ false → sequence * 4032 + place < s.next
  states_at sequence zero place state used_so is over = let no : ⊥ = cc in absurd no
  states_at sequence (suc zero) place state used_so is over = let no : ⊥ = cc in absurd no
  states_at sequence (suc (suc zero)) place state used_so is over =
      let role_is : TipRole sequence ≡ TipRole 0 = used_so.role_is in
      let first : sequence ≡ 0 = cc in
      let low : place < s.next = small.begun_only place state is over in
      omega (arith, first, low)
  states_at sequence (suc (suc (suc zero))) place state used_so is over = let no : ⊥ = cc in absurd no
  states_at sequence (suc (suc (suc (suc page)))) place state used_so is over = let e : TipRole sequence ≡ DataRole 0 0 = used_so.role_is in let no : ⊥ = cc in absurd no

  pub sound : IsSound (view_of s)
  sound = record {
    fitting = λ role page reached. subst (λ r. shows_role r page (view_of s page) ≡ true) (sym (used role page reached).role_is) (fits_at page (used role page reached).within);
    taken = λ role page reached. taken_at page (used role page reached).within;
    once = λ role other page reached again. (used role page reached).role_is ∙ sym (used other page again).role_is;
    back = λ relation page cell back_page back_cell version link. absurd (no_links relation page cell back_page back_cell version link);
    back_once = λ relation page cell other_relation other_page other_cell back_page back_cell version other link again. absurd (no_links relation page cell back_page back_cell version link);
    numbers = λ relation sequence page cell version reached stands holds.
        let plain_so : IsPlain version × (1 < s.next) = plain page cell version stands in
        let number : version.number ≡ 1 = plain_so.0.first holds in
        omega (arith, number, plain_so.1);
    states = λ sequence page place state reached stands over. states_at sequence page place state (used (TipRole sequence) page reached) stands over;
    below = λ relation page cell back_page back_cell version back link stands. absurd (no_links relation page cell back_page back_cell version link);
  }
