use Rattle.std.proofs.Common.{◌≡◌, ◌≢◌, ◌<◌, ◌≤◌, ◌+◌, ◌*◌, ◌/◌, ◌%◌, ◌++◌, ◌∷◌, ◌==◌, ◌&&◌, [], ℕ, zero, suc, Bool, true, false, not, nat_lt, List, Some, length, set, refl, sym, ap, ◌∙◌, inl, inr, subst, arith}
use Rattle.std.specs.Prelude.{slice_get}
use Rattle.std.proofs.lemmas.Bool.{cases_eq, cases_lt}
use Rattle.std.proofs.lemmas.Bool.Decides.{nat_tests}
use Rattle.std.proofs.lemmas.List.{get_or_append_left, get_or_push, length-set, length_push}
use Rattle.std.proofs.lemmas.Option.{same_Some, slice_get_within}
use Rattle.std.proofs.Math.Nat.{div-add-mod', mod-lt, mul-le-mul_left}
use Rattle.fbc_kinds.specs.declared.pages.Header.{Header}
use Rattle.fbc_kinds.specs.declared.pages.Inventory.{Inventory}
use Rattle.fbc_kinds.specs.declared.pages.Relation.{Relation}
use Rattle.fbc_kinds.specs.declared.pages.Tip.{Tip}
use Rattle.fbc_kinds.specs.declared.pages.State.{State}
use Rattle.fbc_kinds.specs.declared.pages.State.TheVariants.{Active, Limbo, Dead, Committed}
use Rattle.fbc_kinds.specs.Limits.{IsPageSize, inventory_bits, inventory_limit, number_limit, pointer_limit, tip_limit, tip_numbers}
use Rattle.fbc_kinds.specs.HeaderSpelling.{ArePageNumbers, IsHeader, IsRelation}
use Rattle.fbc_kinds.specs.InventorySpelling.{IsInventory}
use Rattle.fbc_kinds.specs.TipSpelling.{IsTip}
use Rattle.fbc_kinds.specs.Edits.{covers, is_next, may_be, stands_in, takes_page, with_mark, with_state}

-- An element after a write elsewhere.
pub slice_get-set_other : {X : Type 0} (xs : List X) (i j : ℕ) (y : X) → j ≢ i → slice_get (set xs i y) j ≡ slice_get xs j
slice_get-set_other [] i j y other = refl
slice_get-set_other (x ∷ xs) zero zero y other = absurd (other refl)
slice_get-set_other (x ∷ xs) zero (suc j) y other = refl
slice_get-set_other (x ∷ xs) (suc i) zero y other = refl
slice_get-set_other (x ∷ xs) (suc i) (suc j) y other = slice_get-set_other xs i j y (λ same. other (ap suc same))

-- The element that was written.
pub slice_get-set_same : {X : Type 0} (xs : List X) (i : ℕ) (y : X) → i < length xs → slice_get (set xs i y) i ≡ Some y
slice_get-set_same [] i y inside = absurd (omega arith)
slice_get-set_same (x ∷ xs) zero y inside = refl
slice_get-set_same (x ∷ xs) (suc i) y inside = slice_get-set_same xs i y (omega arith)

-- A header keeps its limits under a new next number.
pub IsHeader-next : (size next : ℕ) (header : Header) → IsHeader size header → is_next size (length header.tips) next ≡ true → IsHeader size (record header { next = next })
IsHeader-next size next header is fits = record {
  page_size = is.page_size;
  next_from = grind (arith, nat_tests);
  next_to = grind (arith, nat_tests);
  next_stands = grind (arith, nat_tests);
  relations_from = is.relations_from;
  relations_to = is.relations_to;
  inventories_from = is.inventories_from;
  inventories_to = is.inventories_to;
  tips_from = is.tips_from;
  tips_to = is.tips_to;
  relations = is.relations;
  names = is.names;
  tips = is.tips;
  oldest = is.oldest;
}

-- Where both of two tests pass, each one passes.
pub both_hold : (a b : Bool) → (a && b) ≡ true → (a ≡ true) × (b ≡ true)
both_hold true true passes = (refl, refl)
both_hold true false passes = cc
both_hold false b passes = cc

-- What a test of two numbers tells.
pub same_from_test : (a b : ℕ) → (a == b) ≡ true → a ≡ b
same_from_test a b passes = grind (arith, nat_tests)

pub below_from_test : (a b : ℕ) → nat_lt a b ≡ true → a < b
below_from_test a b passes = grind (arith, nat_tests)

pub some_from_test : (n : ℕ) → not (n == 0) ≡ true → 0 < n
some_from_test n passes = grind (arith, nat_tests)

other_from_test : (a b : ℕ) → not (a == b) ≡ true → a ≢ b
other_from_test a b passes = grind (arith, nat_tests)

-- One more page number.
ArePageNumbers-push : (pages : List ℕ) (number : ℕ) → ArePageNumbers pages → 0 < number → number < number_limit → ArePageNumbers (pages ++ number ∷ [])
ArePageNumbers-push pages number are some small i inside =
    elim (cases_lt i (length pages)) [
      | inl below ↦ rw (get_or_append_left pages (number ∷ []) 0 i below) (are i below)
      | inr past ↦
          let last : i ≡ length pages = omega (arith, length_push pages number) in
          rw (get_or_push pages number 0 i (sym last)) (record { names = some; below = small })
    ]

-- A header keeps its limits with one more transaction inventory page.
pub IsHeader-tip : (size number : ℕ) (header : Header) → IsHeader size header → number < number_limit → takes_page tip_limit header.tips number ≡ true → IsHeader size (record header { tips = header.tips ++ number ∷ [] })
IsHeader-tip size number header is small fits =
    let tests = both_hold (not (number == 0)) (nat_lt (length header.tips) tip_limit) fits in
    let some = some_from_test number tests.0 in
    let room = below_from_test (length header.tips) tip_limit tests.1 in
    let long : length (header.tips ++ number ∷ []) ≡ length header.tips + 1 = length_push header.tips number in
    let more : tip_numbers size * length header.tips ≤ tip_numbers size * length (header.tips ++ number ∷ []) = mul-le-mul_left (tip_numbers size) (omega arith) in
    record {
      page_size = is.page_size;
      next_from = is.next_from;
      next_to = is.next_to;
      next_stands = omega (arith, is.next_stands);
      relations_from = is.relations_from;
      relations_to = is.relations_to;
      inventories_from = is.inventories_from;
      inventories_to = is.inventories_to;
      tips_from = omega arith;
      tips_to = omega arith;
      relations = is.relations;
      names = is.names;
      tips = ArePageNumbers-push header.tips number is.tips some small;
      oldest = is.oldest;
    }

-- A header keeps its limits with one more page inventory page.
pub IsHeader-inventory : (size : ℕ) (header : Header) → IsHeader size header → nat_lt header.inventories inventory_limit ≡ true → IsHeader size (record header { inventories = header.inventories + 1 })
IsHeader-inventory size header is fits =
    let room = below_from_test header.inventories inventory_limit fits in
    record {
      page_size = is.page_size;
      next_from = is.next_from;
      next_to = is.next_to;
      next_stands = is.next_stands;
      relations_from = is.relations_from;
      relations_to = is.relations_to;
      inventories_from = omega arith;
      inventories_to = omega arith;
      tips_from = is.tips_from;
      tips_to = is.tips_to;
      relations = is.relations;
      names = is.names;
      tips = is.tips;
      oldest = is.oldest;
    }

-- A relation keeps its limits with one more pointer page.
pub IsRelation-pointer : (number : ℕ) (entry : Relation) → IsRelation entry → number < number_limit → takes_page pointer_limit entry.pointers number ≡ true → IsRelation (record entry { pointers = entry.pointers ++ number ∷ [] })
IsRelation-pointer number entry is small fits =
    let tests = both_hold (not (number == 0)) (nat_lt (length entry.pointers) pointer_limit) fits in
    let room = below_from_test (length entry.pointers) pointer_limit tests.1 in
    let long : length (entry.pointers ++ number ∷ []) ≡ length entry.pointers + 1 = length_push entry.pointers number in
    record {
      name = is.name;
      value_from = is.value_from;
      value_to = is.value_to;
      pointers_from = omega arith;
      pointers_to = omega arith;
      pointers = ArePageNumbers-push entry.pointers number is.pointers (some_from_test number tests.0) small;
    }

-- What stands in a place after a write had this fact before it, or is what was written.
after_write : {X : Type 0} (P : X → Type 0) (xs : List X) (at i : ℕ) (old y x : X) → slice_get xs at ≡ Some old → slice_get (set xs at y) i ≡ Some x
    → P y → ((z : X) → slice_get xs i ≡ Some z → P z) → P x
after_write P xs at i old y x there is written before =
    elim (cases_eq i at) [
      | inl same ↦
          let here : slice_get (set xs at y) i ≡ Some y = rw same (slice_get-set_same xs at y (slice_get_within xs at old there)) in
          subst P (same_Some y x (sym here ∙ is)) written
      | inr other ↦ before x (sym (slice_get-set_other xs at i y other) ∙ is)
    ]

-- A header keeps its limits with another entry of the same name.
pub IsHeader-entry : (size at : ℕ) (header : Header) (old entry : Relation) → IsHeader size header → slice_get header.relations at ≡ Some old → entry.name ≡ old.name → IsRelation entry
    → IsHeader size (record header { relations = set header.relations at entry })
IsHeader-entry size at header old entry is there named right =
    let old_name : (i : ℕ) (r : Relation) → slice_get (set header.relations at entry) i ≡ Some r → (z : Relation) × (slice_get header.relations i ≡ Some z) × (z.name ≡ r.name) =
    λ i r here.
    elim (cases_eq i at) [
      | inl same ↦
          let written : slice_get (set header.relations at entry) i ≡ Some entry = rw same (slice_get-set_same header.relations at entry (slice_get_within header.relations at old there)) in
          (old, rw same there, sym named ∙ ap (λ z. z.name) (same_Some entry r (sym written ∙ here)))
      | inr other ↦ (r, sym (slice_get-set_other header.relations at i entry other) ∙ here, refl)
    ] in
    record {
      page_size = is.page_size;
      next_from = is.next_from;
      next_to = is.next_to;
      next_stands = is.next_stands;
      relations_from = omega (arith, is.relations_from, length-set header.relations at entry);
      relations_to = omega (arith, is.relations_to, length-set header.relations at entry);
      inventories_from = is.inventories_from;
      inventories_to = is.inventories_to;
      tips_from = is.tips_from;
      tips_to = is.tips_to;
      relations = λ i r here. after_write IsRelation header.relations at i old entry r there here right (is.relations i);
      names = λ i j r s at_i at_j same.
          let x = old_name i r at_i in
          let y = old_name j s at_j in
          is.names i j x.0 y.0 x.1 y.1 (x.2 ∙ same ∙ sym y.2);
      tips = is.tips;
      oldest = is.oldest;
    }

-- A mark that is set stays set where another one is.
still_set : (marks : List Bool) (i j : ℕ) → slice_get marks j ≡ Some true → slice_get (set marks i true) j ≡ Some true
still_set marks i j there =
    elim (cases_eq j i) [
      | inl same ↦ rw same (slice_get-set_same marks i true (rw same at (slice_get_within marks j true there)))
      | inr other ↦ slice_get-set_other marks i j true other ∙ there
    ]

-- An inventory keeps its limits where a mark is set.
pub IsInventory-taken : (size number : ℕ) (inventory : Inventory) → IsInventory size inventory → IsInventory size (with_mark size number true inventory)
IsInventory-taken size number inventory is = record {
  page = is.page;
  sequence = is.sequence;
  count = length-set inventory.taken (number % inventory_bits size) true ∙ is.count;
  own = λ same. still_set inventory.taken (number % inventory_bits size) (inventory.page % inventory_bits size) (is.own same);
  header = λ first. still_set inventory.taken (number % inventory_bits size) 0 (is.header first);
}

-- Numbers with one quotient and one remainder are equal.
same_from_parts : (n a b : ℕ) → a / n ≡ b / n → a % n ≡ b % n → a ≡ b
same_from_parts n a b quotient remainder =
    sym (div-add-mod' a n) ∙ ap (λ q. q * n + a % n) quotient ∙ ap (λ r. b / n * n + r) remainder ∙ div-add-mod' b n

-- A number with quotient 0 and remainder 0 is 0.
zero_from_parts : (n a : ℕ) → a / n ≡ 0 → a % n ≡ 0 → a ≡ 0
zero_from_parts n a quotient remainder =
    sym (div-add-mod' a n) ∙ ap (λ q. q * n + a % n) quotient ∙ ap (λ r. 0 * n + r) remainder ∙ omega arith

-- An inventory keeps its limits where the mark of another page than itself and the header is cleared.
pub IsInventory-freed : (size number : ℕ) (inventory : Inventory) → IsInventory size inventory
    → (covers size inventory.sequence number && not (number == 0) && not (number == inventory.page)) ≡ true → IsInventory size (with_mark size number false inventory)
IsInventory-freed size number inventory is fits =
    let tests = both_hold (covers size inventory.sequence number && not (number == 0)) (not (number == inventory.page)) fits in
    let first_tests = both_hold (covers size inventory.sequence number) (not (number == 0)) tests.0 in
    let covered = same_from_test (number / inventory_bits size) inventory.sequence first_tests.0 in
    let some = some_from_test number first_tests.1 in
    let other = other_from_test number inventory.page tests.1 in
    let n = inventory_bits size in
    record {
      page = is.page;
      sequence = is.sequence;
      count = length-set inventory.taken (number % n) false ∙ is.count;
      own = λ same.
          slice_get-set_other inventory.taken (number % n) (inventory.page % n) false (λ place. other (same_from_parts n number inventory.page (covered ∙ sym same) (sym place)))
          ∙ is.own same;
      header = λ first.
          slice_get-set_other inventory.taken (number % n) 0 false (λ place. let none = zero_from_parts n number (covered ∙ first) (sym place) in omega arith)
          ∙ is.header first;
    }

-- A state that a number may have is active at number 0, and never limbo.
active_at_zero : (number : ℕ) (state : State) → number ≡ 0 → may_be number state ≡ true → state ≡ Active
active_at_zero number Active none may = refl
active_at_zero number Limbo none may = cc
active_at_zero number Dead none may = absurd (other_from_test number 0 may none)
active_at_zero number Committed none may = absurd (other_from_test number 0 may none)

never_limbo : (number : ℕ) (state : State) → may_be number state ≡ true → state ≢ Limbo
never_limbo number Active may same = cc
never_limbo number Limbo may same = cc
never_limbo number Dead may same = cc
never_limbo number Committed may same = cc

-- A transaction inventory page keeps its limits where a number gets a state that it may have.
pub IsTip-state : (size number : ℕ) (state : State) (tip : Tip) → IsPageSize size → IsTip size tip
    → (stands_in size tip.sequence number && may_be number state) ≡ true → IsTip size (with_state size number state tip)
IsTip-state size number state tip right_size is fits =
    let tests = both_hold (stands_in size tip.sequence number) (may_be number state) fits in
    let stands = same_from_test (number / tip_numbers size) tip.sequence tests.0 in
    let n = tip_numbers size in
    let some : 0 < tip_numbers size = grind arith in
    let place : number % n < length tip.states = omega (arith, mod-lt number some, is.count) in
    record {
      page = is.page;
      sequence = is.sequence;
      count = length-set tip.states (number % n) state ∙ is.count;
      zero = λ first.
          elim (cases_eq 0 (number % n)) [
            | inl same ↦
                let active = active_at_zero number state (zero_from_parts n number (stands ∙ first) (sym same)) tests.1 in
                rw same (slice_get-set_same tip.states (number % n) state place ∙ ap Some active)
            | inr other ↦ slice_get-set_other tip.states (number % n) 0 state other ∙ is.zero first
          ];
      state = λ i limbo.
          elim (cases_eq i (number % n)) [
            | inl same ↦
                let here : slice_get (set tip.states (number % n) state) i ≡ Some state = rw same (slice_get-set_same tip.states (number % n) state place) in
                never_limbo number state tests.1 (same_Some state Limbo (sym here ∙ limbo))
            | inr other ↦ is.state i (sym (slice_get-set_other tip.states (number % n) i state other) ∙ limbo)
          ];
    }
