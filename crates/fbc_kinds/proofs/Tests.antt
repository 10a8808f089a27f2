use Rattle.std.proofs.Common.{◌≡◌, ◌≢◌, ◌<◌, ◌≤◌, ◌&&◌, ◌||◌, ◌==◌, ℕ, zero, suc, Bool, true, false, not, List, [], ◌∷◌, length, get_or, refl, arith}
use Rattle.std.specs.Prelude.{nat_le}
use Rattle.std.specs.List.{list_any}
use Rattle.std.proofs.lemmas.Bool.Decides.{nat_tests}

-- Where neither of two tests passes, each one fails.
pub both_fail : (a b : Bool) → (a || b) ≡ false → (a ≡ false) × (b ≡ false)
both_fail false false fails = (refl, refl)
both_fail false true fails = cc
both_fail true _ fails = cc

-- Where each of two tests fails, neither passes.
pub neither : (a b : Bool) → a ≡ false → b ≡ false → (a || b) ≡ false
neither a b left right = rw (left, right) refl

-- Where no item passes, each one fails.
pub list_any-fails : (test : ℕ → Bool) (xs : List ℕ) → list_any test xs ≡ false → (i : ℕ) → i < length xs → test (get_or xs i 0) ≡ false
list_any-fails test [] none i below = absurd (omega arith)
list_any-fails test (x ∷ xs) none zero below = (both_fail (test x) (list_any test xs) none).0
list_any-fails test (x ∷ xs) none (suc i) below = list_any-fails test xs (both_fail (test x) (list_any test xs) none).1 i (omega arith)

-- Where each item fails, none passes.
pub list_any-none : (test : ℕ → Bool) (xs : List ℕ) → ((i : ℕ) → i < length xs → test (get_or xs i 0) ≡ false) → list_any test xs ≡ false
list_any-none test [] each = refl
list_any-none test (x ∷ xs) each = neither (test x) (list_any test xs) (each 0 (omega arith)) (list_any-none test xs (λ i below. each (suc i) (omega arith)))

-- What a test of two numbers tells.
pub same_from_test : (m n : ℕ) → (m == n) ≡ true → m ≡ n
same_from_test m n passes = grind (arith, nat_tests)

pub differ_from_test : (m n : ℕ) → (m == n) ≡ false → m ≢ n
differ_from_test m n fails = grind (arith, nat_tests)

pub test_of_same : (m n : ℕ) → m ≡ n → (m == n) ≡ true
test_of_same m n same = grind (arith, nat_tests)

pub test_of_different : (m n : ℕ) → m ≢ n → (m == n) ≡ false
test_of_different m n differ = grind (arith, nat_tests)

-- A test under a condition that does not hold, or that fails, fails.
pub and_fails_left : (a b : Bool) → a ≡ false → (a && b) ≡ false
and_fails_left a b fails = rw fails refl

pub and_fails_right : (a b : Bool) → b ≡ false → (a && b) ≡ false
and_fails_right true b fails = fails
and_fails_right false b fails = refl

-- A failed test under a condition that holds.
pub fails_under : (a b : Bool) → (a && b) ≡ false → a ≡ true → b ≡ false
fails_under true b fails holds = fails
fails_under false b fails holds = cc

pub false_from_not : (b : Bool) → not b ≡ true → b ≡ false
false_from_not false passes = refl
false_from_not true passes = cc

pub not_of_true : (b : Bool) → b ≡ true → not b ≡ false
not_of_true b is = rw is refl

-- A test that fails wherever its condition holds.
pub and_fails : (a b : Bool) → (a ≡ true → b ≡ false) → (a && b) ≡ false
and_fails true b fails = fails refl
and_fails false b fails = refl

-- What the test of an order tells.
pub at_most : (m n : ℕ) → nat_le m n ≡ true → m ≤ n
at_most m n passes = grind (arith, nat_tests)

pub test_of_order : (m n : ℕ) → m ≤ n → nat_le m n ≡ true
test_of_order m n order = grind (arith, nat_tests)
