-- Tests of the pairs of a list.
use Rattle.std.proofs.Common.{◌≡◌, ◌⊎◌, inl, inr, ℕ, Bool, true, false, ◌||◌, ◌&&◌, ◌==◌, List, [], ◌∷◌, ◌++◌, ◌∙◌, sym, ap, refl, arith}
use Rattle.std.specs.List.{list_any}
use Rattle.std.proofs.lemmas.Bool.Decides.{nat_tests}
use Rattle.std.proofs.lemmas.List.Folds.{list_any-append}
use Rattle.std.proofs.lemmas.Bool.{or_right}
use Rattle.fbc_kinds.specs.declared.edges.Edge.{Edge}
use Rattle.fbc_precedence.specs.Precedence.{pair_of, is_pair, IsPair}
use Rattle.fbc_precedence.proofs.Counting.{any-weaker}

pub same-pair : (pair : Edge) (high low : ℕ) → is_pair high low pair ≡ true → pair ≡ pair_of high low
same-pair pair high low is =
    let above : pair.high ≡ high = grind (arith, nat_tests, is) in
    let below : pair.low ≡ low = grind (arith, nat_tests, is) in
    λ i. record { high = above i; low = below i }

pub is-itself : (high low : ℕ) → is_pair high low (pair_of high low) ≡ true
is-itself high low = grind (arith, nat_tests)

-- A test that the pair passes is passed where it is recorded.
pub pair-passes : (test : Edge → Bool) (pairs : List Edge) (high low : ℕ) → IsPair pairs high low → test (pair_of high low) ≡ true → list_any test pairs ≡ true
pair-passes test pairs high low is passes = any-weaker (is_pair high low) test (λ pair same. ap test (same-pair pair high low same) ∙ passes) pairs is

-- The pages of a pair that passes.
pub record Passing (test : Edge → Bool) (pairs : List Edge) : Type 0 where
  pub high : ℕ
  pub low : ℕ
  pub pair : IsPair pairs high low
  pub passes : test (pair_of high low) ≡ true

pub passing : (test : Edge → Bool) (pairs : List Edge) → list_any test pairs ≡ true → Passing test pairs
passing test [] some = absurd (cc)
passing test (pair ∷ pairs) some = step (test pair) refl some (passing test pairs) where
  step : (b : Bool) → test pair ≡ b → (b || list_any test pairs) ≡ true → (list_any test pairs ≡ true → Passing test pairs) → Passing test (pair ∷ pairs)
  step true passes some' rest = record { high = pair.high; low = pair.low; pair = ap (λ b. b || list_any (is_pair pair.high pair.low) pairs) (is-itself pair.high pair.low); passes = passes }
  step false fails some' rest =
      let found = rest some' in
      record { high = found.high; low = found.low; pair = or_right (is_pair found.high found.low pair) (list_any (is_pair found.high found.low) pairs) found.pair; passes = found.passes }

-- A pair of the list with one more is of the list or is that one.
pub pair-of-more : (pairs : List Edge) (high low above below : ℕ) → IsPair (pairs ++ pair_of high low ∷ []) above below → IsPair pairs above below ⊎ ((above ≡ high) × (below ≡ low))
pair-of-more pairs high low above below is = step (list_any (is_pair above below) pairs) refl (sym (list_any-append (is_pair above below) pairs (pair_of high low ∷ [])) ∙ is) where
  step : (b : Bool) → list_any (is_pair above below) pairs ≡ b → (b || (((high == above) && (low == below)) || false)) ≡ true → IsPair pairs above below ⊎ ((above ≡ high) × (below ≡ low))
  step true stands is' = inl stands
  step false none is' = inr (grind (arith, nat_tests), grind (arith, nat_tests))
