-- Where a search of a list ends, and what holds of all items.
use Rattle.std.proofs.Common.{◌≡◌, ◌∙◌, ◌+◌, ℕ, zero, suc, Bool, true, false, ◌||◌, List, [], ◌∷◌, refl, sym, ap, arith, find, if◌then◌else◌}
use Rattle.std.proofs.lemmas.Bool.{or_right}
use Rattle.std.specs.Prelude.{Some, None, slice_get}
use Rattle.std.specs.List.{list_all, list_any, position_from}
use Rattle.std.proofs.lemmas.Option.{same_Some}
use Rattle.fbc_kinds.proofs.Heads.{both_pass}

-- An item that passes, at its place, which the search for places finds.
pub record IsPlaced {X : Type 0} (test : X → Bool) (xs : List X) (x : X) (from : ℕ) : Type 0 where
  pub place : ℕ
  pub is : position_from test from xs ≡ Some (from + place)
  pub at : slice_get xs place ≡ Some x
  pub passes : test x ≡ true

one_later : {X : Type 0} (test : X → Bool) (y : X) (ys : List X) (x : X) (from : ℕ) → test y ≡ false → IsPlaced test ys x (from + 1) → IsPlaced test (y ∷ ys) x from
one_later test y ys x from fails rest =
    let next : from + 1 + rest.place ≡ from + suc rest.place = omega arith in
    record { place = suc rest.place; is = rw fails (rest.is ∙ ap Some next); at = rest.at; passes = rest.passes }

first_one : {X : Type 0} (test : X → Bool) (y : X) (ys : List X) (x : X) (from : ℕ) → test y ≡ true → y ≡ x → IsPlaced test (y ∷ ys) x from
first_one test y ys x from passes same =
    let start : from ≡ from + 0 = omega arith in
    record { place = 0; is = rw passes (ap Some start); at = ap Some same; passes = ap test (sym same) ∙ passes }

-- What is found has a place.
pub placed : {X : Type 0} (test : X → Bool) (xs : List X) (x : X) (from : ℕ) → find test xs ≡ Some x → IsPlaced test xs x from
placed test [] x from is = cc
placed {X} test (y ∷ ys) x from is = go (test y) refl is (placed test ys x (from + 1))
  where
    go : (b : Bool) → test y ≡ b → (if b then Some y else find test ys) ≡ Some x → (find test ys ≡ Some x → IsPlaced test ys x (from + 1)) → IsPlaced test (y ∷ ys) x from
    go true passes is later = first_one test y ys x from passes (same_Some y x is)
    go false passes is later = one_later test y ys x from passes (later is)

-- Where nothing is found, there is no place.
pub no_place : {X : Type 0} (test : X → Bool) (xs : List X) (from : ℕ) → find test xs ≡ None → position_from test from xs ≡ None
no_place test [] from is = refl
no_place {X} test (y ∷ ys) from is = go (test y) is (no_place test ys (from + 1))
  where
    go : (b : Bool) → (if b then Some y else find test ys) ≡ None → (find test ys ≡ None → position_from test (from + 1) ys ≡ None) → (if b then Some from else position_from test (from + 1) ys) ≡ None
    go true is later = cc
    go false is later = later is

-- Where an item passes, one is found.
pub some_found : {X : Type 0} (test : X → Bool) (xs : List X) (place : ℕ) (x : X) → slice_get xs place ≡ Some x → test x ≡ true → (y : X) × (find test xs ≡ Some y)
some_found test [] place x at passes = cc
some_found test (y ∷ ys) zero x at passes = (y, rw (ap test (same_Some y x at) ∙ passes) refl)
some_found {X} test (y ∷ ys) (suc place) x at passes = go (test y) (some_found test ys place x at passes)
  where
    go : (b : Bool) → (z : X) × (find test ys ≡ Some z) → (z : X) × ((if b then Some y else find test ys) ≡ Some z)
    go true later = (y, refl)
    go false later = later

-- What all items pass, the one at a place passes.
pub all_at : {X : Type 0} (test : X → Bool) (xs : List X) (place : ℕ) (x : X) → list_all test xs ≡ true → slice_get xs place ≡ Some x → test x ≡ true
all_at test [] place x all at = cc
all_at test (y ∷ ys) zero x all at = ap test (sym (same_Some y x at)) ∙ (both_pass (test y) (list_all test ys) all).0
all_at test (y ∷ ys) (suc place) x all at = all_at test ys place x (both_pass (test y) (list_all test ys) all).1 at

pub all_from : {X : Type 0} (test : X → Bool) (xs : List X) → ((place : ℕ) (x : X) → slice_get xs place ≡ Some x → test x ≡ true) → list_all test xs ≡ true
all_from test [] each = refl
all_from test (y ∷ ys) each = rw (each 0 y refl, all_from test ys (λ place x at. each (suc place) x at)) refl

-- An item that passes, where one does.
pub record Passes {X : Type 0} (test : X → Bool) (xs : List X) : Type 0 where
  pub place : ℕ
  pub item : X
  pub at : slice_get xs place ≡ Some item
  pub passes : test item ≡ true

pub any_at : {X : Type 0} (test : X → Bool) (xs : List X) → list_any test xs ≡ true → Passes test xs
any_at test [] is = cc
any_at {X} test (y ∷ ys) is = go (test y) refl is (any_at test ys)
  where
    go : (b : Bool) → test y ≡ b → (b || list_any test ys) ≡ true → (list_any test ys ≡ true → Passes test ys) → Passes test (y ∷ ys)
    go true passes is later = record { place = 0; item = y; at = refl; passes = passes }
    go false passes is later = let rest = later is in record { place = suc rest.place; item = rest.item; at = rest.at; passes = rest.passes }

pub any_from : {X : Type 0} (test : X → Bool) (xs : List X) (place : ℕ) (x : X) → slice_get xs place ≡ Some x → test x ≡ true → list_any test xs ≡ true
any_from test [] place x at passes = cc
any_from test (y ∷ ys) zero x at passes = rw (ap test (same_Some y x at) ∙ passes) refl
any_from test (y ∷ ys) (suc place) x at passes = or_right (test y) (list_any test ys) (any_from test ys place x at passes)
