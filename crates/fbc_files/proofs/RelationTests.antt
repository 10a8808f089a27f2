-- The tests of relations say whether a file can be made with them.
use Rattle.std.proofs.Common.{◌≡◌, ◌&&◌, ◌||◌, ℕ, zero, suc, Bool, true, false, not, List, [], ◌∷◌, length, Some, refl, sym, ap, ◌∙◌, arith, subst}
use Rattle.std.specs.Prelude.{nat_le, slice_get}
use Rattle.std.specs.List.{list_all}
use Rattle.std.specs.Str.{bytes_eq}
use Rattle.std.proofs.lemmas.Option.{none-some, same_Some}
use Rattle.std.proofs.lemmas.Slice.Eq.{bytes_eq-Decides}
use Rattle.fbc_kinds.specs.HeaderSpelling.{is_name}
use Rattle.fbc_kinds.specs.Limits.{relation_limit, value_limit}
use Rattle.fbc_kinds.proofs.Heads.{both_pass}
use Rattle.fbc_kinds.proofs.Tests.{at_most, false_from_not, test_of_order}
use Rattle.fbc_files.specs.declared.relations.NewRelation.{NewRelation}
use Rattle.fbc_files.specs.NewPages.{AreNewRelations, IsNewRelation}
use Rattle.fbc_files.specs.RelationTests.{has_name, has_right_count, have_own_names, is_new_relation, pass_tests}

-- The relations, each of its own name.
abbrev OwnNames : List NewRelation → Type 0
OwnNames relations = (i j : ℕ) (r s : NewRelation) → slice_get relations i ≡ Some r → slice_get relations j ≡ Some s → r.name ≡ s.name → i ≡ j

abbrev EachNew : List NewRelation → Type 0
EachNew relations = (i : ℕ) (relation : NewRelation) → slice_get relations i ≡ Some relation → IsNewRelation relation

both : (a b : Bool) → a ≡ true → b ≡ true → (a && b) ≡ true
both a b left right = rw (left, right) refl

first_of : (a b : Bool) → a ≡ true → (a || b) ≡ true
first_of a b is = rw is refl

second_of : (a b : Bool) → b ≡ true → (a || b) ≡ true
second_of true b is = refl
second_of false b is = is

-- A name that a relation has is found.
name_found : (name : List ℕ) (relations : List NewRelation) (j : ℕ) (s : NewRelation) → slice_get relations j ≡ Some s → s.name ≡ name → has_name name relations ≡ true
name_found name [] j s at same = absurd (none-some s at)
name_found name (r ∷ relations) zero s at same =
    let is : r ≡ s = same_Some r s at in
    first_of (bytes_eq r.name name) (has_name name relations) ((bytes_eq-Decides r.name name).1 (ap (λ (x : NewRelation). x.name) is ∙ same))
name_found name (r ∷ relations) (suc j) s at same = second_of (bytes_eq r.name name) (has_name name relations) (name_found name relations j s at same)

-- A name that is found is a relation's.
abbrev Named : List ℕ → List NewRelation → Type 0
Named name relations = (j : ℕ) × (s : NewRelation) × (slice_get relations j ≡ Some s) × (s.name ≡ name)

found_in : (name : List ℕ) (r : NewRelation) (relations : List NewRelation) (b : Bool) → bytes_eq r.name name ≡ b → (b || has_name name relations) ≡ true → (has_name name relations ≡ true → Named name relations) → Named name (r ∷ relations)
found_in name r relations true is found later = (0, r, refl, (bytes_eq-Decides r.name name).0 is)
found_in name r relations false is found later = let rest = later found in (suc rest.0, rest.1, rest.2, rest.3)

found_name : (name : List ℕ) (relations : List NewRelation) → has_name name relations ≡ true → Named name relations
found_name name [] found = cc
found_name name (r ∷ relations) found = found_in name r relations (bytes_eq r.name name) refl found (found_name name relations)

not_true : (b : Bool) → (b ≡ true → ⊥) → not b ≡ true
not_true true fails = absurd (fails refl)
not_true false fails = refl

own_from_test : (relations : List NewRelation) → have_own_names relations ≡ true → OwnNames relations
own_from_test [] passes i j r s at at' same = absurd (none-some r at)
own_from_test (x ∷ xs) passes zero zero r s at at' same = refl
own_from_test (x ∷ xs) passes zero (suc j) r s at at' same =
    let two = both_pass (not (has_name x.name xs)) (have_own_names xs) passes in
    let is : x ≡ r = same_Some x r at in
    let found = name_found x.name xs j s at' (sym same ∙ sym (ap (λ (y : NewRelation). y.name) is)) in
    let none = false_from_not (has_name x.name xs) two.0 in
    cc
own_from_test (x ∷ xs) passes (suc i) zero r s at at' same =
    let two = both_pass (not (has_name x.name xs)) (have_own_names xs) passes in
    let is : x ≡ s = same_Some x s at' in
    let found = name_found x.name xs i r at (same ∙ sym (ap (λ (y : NewRelation). y.name) is)) in
    let none = false_from_not (has_name x.name xs) two.0 in
    cc
own_from_test (x ∷ xs) passes (suc i) (suc j) r s at at' same = ap suc (own_from_test xs (both_pass (not (has_name x.name xs)) (have_own_names xs) passes).1 i j r s at at' same)

pred_same : (i j : ℕ) → suc i ≡ suc j → i ≡ j
pred_same i j same = omega arith

test_from_own : (relations : List NewRelation) → OwnNames relations → have_own_names relations ≡ true
test_from_own [] own = refl
test_from_own (x ∷ xs) own =
    both (not (has_name x.name xs)) (have_own_names xs)
    (not_true (has_name x.name xs) (λ found.
    let there = found_name x.name xs found in
    let no : 0 ≡ suc there.0 = own 0 (suc there.0) x there.1 refl there.2 (sym there.3) in
    omega arith))
    (test_from_own xs (λ i j r s at at' same. pred_same i j (own (suc i) (suc j) r s at at' same)))

each_from_test : (relations : List NewRelation) → list_all is_new_relation relations ≡ true → EachNew relations
each_from_test [] passes i relation at = absurd (none-some relation at)
each_from_test (x ∷ xs) passes zero relation at =
    let this = (both_pass (is_new_relation x) (list_all is_new_relation xs) passes).0 in
    let two = both_pass (is_name x.name && nat_le 1 x.length) (nat_le x.length value_limit) this in
    let one = both_pass (is_name x.name) (nat_le 1 x.length) two.0 in
    let is : x ≡ relation = same_Some x relation at in
    let new : IsNewRelation x = record { name = one.0; value_from = at_most 1 x.length one.1; value_to = at_most x.length value_limit two.1 } in
    subst IsNewRelation is new
each_from_test (x ∷ xs) passes (suc i) relation at = each_from_test xs (both_pass (is_new_relation x) (list_all is_new_relation xs) passes).1 i relation at

test_from_each : (relations : List NewRelation) → EachNew relations → list_all is_new_relation relations ≡ true
test_from_each [] each = refl
test_from_each (x ∷ xs) each =
    let new = each 0 x refl in
    both (is_new_relation x) (list_all is_new_relation xs)
    (both (is_name x.name && nat_le 1 x.length) (nat_le x.length value_limit) (both (is_name x.name) (nat_le 1 x.length) new.name (test_of_order 1 x.length new.value_from)) (test_of_order x.length value_limit new.value_to))
    (test_from_each xs (λ i relation at. each (suc i) relation at))

-- What the tests of relations tell.
pub AreNewRelations-tested : (relations : List NewRelation) → pass_tests relations ≡ true → AreNewRelations relations
AreNewRelations-tested relations passes =
    let last = both_pass (has_right_count relations && list_all is_new_relation relations) (have_own_names relations) passes in
    let first = both_pass (has_right_count relations) (list_all is_new_relation relations) last.0 in
    let count = both_pass (nat_le 1 (length relations)) (nat_le (length relations) relation_limit) first.0 in
    record {
      some = at_most 1 (length relations) count.0;
      few = at_most (length relations) relation_limit count.1;
      each = each_from_test relations first.1;
      own_names = own_from_test relations last.1;
    }

pub pass_tests-new : (relations : List NewRelation) → AreNewRelations relations → pass_tests relations ≡ true
pass_tests-new relations are =
    both (has_right_count relations && list_all is_new_relation relations) (have_own_names relations)
    (both (has_right_count relations) (list_all is_new_relation relations)
    (both (nat_le 1 (length relations)) (nat_le (length relations) relation_limit) (test_of_order 1 (length relations) are.some) (test_of_order (length relations) relation_limit are.few))
    (test_from_each relations are.each))
    (test_from_own relations are.own_names)
