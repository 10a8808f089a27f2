-- Where the first byte that passes a test stands.
use Rattle.std.proofs.Common.{take-append-drop, ◌≡◌, ◌<◌, ◌+◌, ℕ, Bool, true, false, List, [], ◌∷◌, ◌++◌, length, take, drop, get_or, Some, None, refl, arith}
use Rattle.std.specs.Prelude.{not, position}
use Rattle.std.specs.List.{list_any, position_or_len}
use Rattle.std.proofs.lemmas.List.Quantifiers.{position-Some}
use Rattle.std.proofs.lemmas.List.Sums.{prefix_len-le-length}
use Rattle.std.proofs.Math.Seq.{drop-cons}
use Rattle.fbc_kinds.proofs.Tests.{list_any-none}
use Rattle.std.proofs.lemmas.Bool.Decides.{nat_tests}
use Rattle.std.proofs.lemmas.Grind.{common_steps}

module _ (test : ℕ → Bool) where
  -- Where none passes, the length is the place.
  none_before_end : (xs : List ℕ) → list_any test xs ≡ false → position_or_len test xs ≡ length xs
  none_before_end [] none = refl
  none_before_end (x ∷ xs) none = grind (arith, nat_tests, none_before_end xs)

  pub no_place : (xs : List ℕ) → list_any test xs ≡ false → position test xs ≡ None
  no_place xs none = grind (arith, nat_tests, none_before_end xs)

  ends_with_none : (xs : List ℕ) → position_or_len test xs ≡ length xs → list_any test xs ≡ false
  ends_with_none [] is = refl
  ends_with_none (x ∷ xs) is = grind (arith, nat_tests, ends_with_none xs)

  before_it : (xs ys : List ℕ) (x : ℕ) → list_any test xs ≡ false → test x ≡ true → position_or_len test (xs ++ x ∷ ys) ≡ length xs
  before_it [] ys x none is = grind (arith, nat_tests)
  before_it (first ∷ xs) ys x none is = grind (arith, nat_tests, before_it xs ys x)

  pub place_behind : (xs ys : List ℕ) (x : ℕ) → list_any test xs ≡ false → test x ≡ true → position test (xs ++ x ∷ ys) ≡ Some (length xs)
  place_behind xs ys x none is = grind (arith, nat_tests, common_steps, before_it xs ys x)

  -- Before the first one that passes, none does.
  pub split_there : (xs : List ℕ) (at : ℕ) → position test xs ≡ Some at → (xs ≡ take at xs ++ get_or xs at 0 ∷ drop (at + 1) xs) × (test (get_or xs at 0) ≡ true) × (list_any test (take at xs) ≡ false)
  split_there xs at is =
      let found = position-Some test xs at 0 is in
      let within : at < length xs = found.0 in
      (grind (arith, common_steps, take-append-drop at xs, drop-cons xs at 0 within), found.1, list_any-none test (take at xs) (λ i below. grind (arith, common_steps, found.2 i)))

  pub none_there : (xs : List ℕ) → position test xs ≡ None → list_any test xs ≡ false
  none_there xs is = ends_with_none xs (grind (arith, nat_tests, prefix_len-le-length (λ x. not (test x)) xs))
