-- What leaving a list keeps.
use Rattle.std.proofs.Common.{◌≡◌, ℕ, suc, ◌+◌, ◌<◌, ◌≤◌, Bool, true, false, cond, not, ◌||◌, ◌&&◌, ◌==◌, List, [], ◌∷◌, take, length, refl, ◌∙◌, ap, subst, arith}
use Rattle.std.specs.List.{AllByRecursion}
use Rattle.std.proofs.lemmas.Bool.Decides.{nat_tests}
use Rattle.std.proofs.lemmas.List.{take_all}
use Rattle.std.proofs.lemmas.List.Filters.{length-filter_both}
use Rattle.std.proofs.lemmas.Map.Views.{any-filter_same}
use Rattle.fbc_owner_queues.specs.Living.{has}
use Rattle.fbc_owner_queues.specs.Search.{leaving}

same_test : (o x k : ℕ) → o == x ≡ true → not (o == k) ≡ not (x == k)
same_test o x k is = grind (arith, nat_tests)

-- Who is in the list that an owner left: those that were, but for that owner.
pub has-leaving : (os : List ℕ) (k x : ℕ) → has (leaving os k) x ≡ (not (x == k) && has os x)
has-leaving os k x = any-filter_same (λ o. o == x) (λ o. not (o == k)) (not (x == k)) (λ o is. same_test o x k is) os

pub has-leaving_self : (os : List ℕ) (k : ℕ) → has (leaving os k) k ≡ false
has-leaving_self os k = has-leaving os k k ∙ grind (arith, nat_tests)

pub has-leaving_none : (os : List ℕ) (k x : ℕ) → has os x ≡ false → has (leaving os k) x ≡ false
has-leaving_none os k x none = has-leaving os k x ∙ grind (arith, nat_tests)

pub has-leaving_other : (os : List ℕ) (k x : ℕ) → x == k ≡ false → has os x ≡ true → has (leaving os k) x ≡ true
has-leaving_other os k x other there = has-leaving os k x ∙ grind (arith, nat_tests)

-- No longer list is left.
pub length-leaving_most : (os : List ℕ) (k : ℕ) → length (leaving os k) ≤ length os
length-leaving_most os k = omega (arith, length-filter_both (λ o. not (o == k)) (λ o. not (not (o == k))) (λ o. refl) os)

-- The list becomes shorter where the owner was in it.
pub length-leaving : (os : List ℕ) (k : ℕ) → has os k ≡ true → length (leaving os k) + 1 ≤ length os
length-leaving [] k there = absurd (cc)
length-leaving (o ∷ os) k there = step (o == k) there (length-leaving os k) where
  step : (b : Bool) → b || has os k ≡ true → (has os k ≡ true → length (leaving os k) + 1 ≤ length os) → length (cond (not b) (o ∷ leaving os k) (leaving os k)) + 1 ≤ suc (length os)
  step true is rest = omega (arith, length-leaving_most os k)
  step false is rest = omega (arith, rest is)

-- What holds of each element holds of one that is there.
pub at_member : (os : List ℕ) (P : ℕ → Type 0) (x : ℕ) → AllByRecursion P os → has os x ≡ true → P x
at_member [] P x all there = absurd (cc)
at_member (o ∷ os) P x all there = step (o == x) refl there (λ there'. at_member os P x all.1 there') where
  same : o == x ≡ true → o ≡ x
  same is = grind (arith, nat_tests)

  step : (b : Bool) → o == x ≡ b → b || has os x ≡ true → (has os x ≡ true → P x) → P x
  step true is there' rest = subst P (same is) all.0
  step false is there' rest = rest there'

-- The same of a loop that has gone over all of the list.
pub shorter : (os rest : List ℕ) (n k : ℕ) → length os ≤ n → rest ≡ leaving (take n os) k → has os k ≡ true → length rest < length os
shorter os rest n k all is there =
    let whole : rest ≡ leaving os k = is ∙ ap (λ xs. leaving xs k) (take_all n os all) in
    omega (arith, ap length whole, length-leaving os k there)
