-- The keys of a map, in rising order.
use Rattle.std.proofs.Common.{◌≡◌, ◌↔◌, ℕ, true, nat_eq, List, is_some, Contains, sym, subst, arith}
use Rattle.std.specs.Cmp.{nat_eq_equiv}
use Rattle.std.specs.List.{IsDistinct}
use Rattle.std.specs.List.Sorted.{IsPermutation, IsSorted, IsStrictlyIncreasing}
use Rattle.std.specs.Map.{keys_of, lookup}
use Rattle.std.specs.Ordering.{nat_cmp}
use Rattle.std.proofs.lemmas.Bool.Decides.{nat_tests}
use Rattle.std.proofs.lemmas.List.Sorted.{Contains-permutation, IsPermutation-sym, IsNonDecreasingBy-from_sort}
use Rattle.std.proofs.lemmas.Map.Keys.{IsDistinct-IsPermutation, IsStrictlyIncreasing-from_distinct}
use Rattle.std.proofs.lemmas.Map.Views.{Contains-keys_from_lookup, IsSome-lookup_from_Contains}
use Rattle.fbc_kinds.proofs.Tests.{same_from_test}
use Rattle.fbc_reach.specs.declared.tally.NamedPage.{NamedPage}

flips : (a b : ℕ) → nat_eq a b ≡ nat_eq b a
flips a b = grind (arith, nat_tests)

pub rise_of : (keys pages : List ℕ) → IsPermutation keys pages → IsDistinct nat_eq keys → IsSorted nat_cmp pages → IsStrictlyIncreasing pages
rise_of keys pages moved apart sorted =
    IsStrictlyIncreasing-from_distinct pages (IsNonDecreasingBy-from_sort (λ x. x) pages sorted) (IsDistinct-IsPermutation nat_eq flips keys pages moved apart)

pub each_of : (entries : List (ℕ × NamedPage)) (keys pages : List ℕ) → keys ≡ keys_of entries → IsPermutation keys pages
    → (page : ℕ) → Contains pages page ↔ (is_some (lookup (nat_eq page) entries) ≡ true)
each_of entries keys pages all moved page = (
  (λ stands.
      let P : List ℕ → Type 0 = λ ks. Contains ks page in
      IsSome-lookup_from_Contains nat_eq_equiv page entries (subst P all (Contains-permutation pages keys page (IsPermutation-sym keys pages moved) stands))),
  (λ kept.
      let P : List ℕ → Type 0 = λ ks. Contains ks page in
      Contains-permutation keys pages page moved (subst P (sym all) (Contains-keys_from_lookup same_from_test page entries kept))),
)
