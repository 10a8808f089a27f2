-- Paths through pairs.
use Rattle.std.proofs.Common.{◌≡◌, ◌≢◌, ◌⊎◌, inl, inr, ℕ, true, ◌==◌, List, [], ◌∷◌, ◌++◌, ◌∙◌, sym, subst, arith}
use Rattle.std.proofs.lemmas.Bool.Decides.{nat_tests}
use Rattle.fbc_kinds.specs.declared.edges.Edge.{Edge}
use Rattle.fbc_kinds.specs.Order.{straight, through}
use Rattle.fbc_precedence.specs.Precedence.{pair_of, IsPair, ComesBefore, IsBlocked, IsAtOrBefore}
use Rattle.fbc_precedence.specs.Search.{is_blocked}
use Rattle.fbc_precedence.proofs.Pairs.{pair-passes, passing, pair-of-more}

-- Where each pair stands still, so does each path.
pub leads-on : (pairs more : List Edge) → ((above below : ℕ) → IsPair pairs above below → IsPair more above below) → (high low : ℕ) → ComesBefore pairs high low → ComesBefore more high low
leads-on pairs more keeps _ _ (straight high low is) = straight high low (keeps high low is)
leads-on pairs more keeps _ _ (through high between low is rest) = through high between low (keeps high between is) (leads-on pairs more keeps between low rest)

-- Two paths in a row are a path.
pub joined : (pairs : List Edge) (high between low : ℕ) → ComesBefore pairs high between → ComesBefore pairs between low → ComesBefore pairs high low
joined pairs _ _ low (straight high between is) rest = through high between low is rest
joined pairs _ _ low (through high next between is first) rest = through high next low is (joined pairs next between low first rest)

-- A path ends with a pair.
pub path-blocks : (pairs : List Edge) (high low : ℕ) → ComesBefore pairs high low → is_blocked pairs low ≡ true
path-blocks pairs _ _ (straight high low is) = pair-passes (λ pair. pair.low == low) pairs high low is (grind (arith, nat_tests))
path-blocks pairs _ _ (through high between low is rest) = path-blocks pairs between low rest

pub blocked-by : (pairs : List Edge) (page : ℕ) → is_blocked pairs page ≡ true → IsBlocked pairs page
blocked-by pairs page is =
    let found = passing (λ pair. pair.low == page) pairs is in
    let same : found.low ≡ page = grind (arith, nat_tests, found.passes) in
    (found.high, subst (ComesBefore pairs found.high) same (straight found.high found.low found.pair))

-- A path through the list with one more pair goes round that pair or through it.
pub through-one-more : (pairs : List Edge) (high low above below : ℕ) → ComesBefore (pairs ++ pair_of high low ∷ []) above below → ComesBefore pairs above below ⊎ (IsAtOrBefore pairs above high × IsAtOrBefore pairs low below)
through-one-more pairs high low _ _ (straight above below is) = step (pair-of-more pairs high low above below is) where
  step : IsPair pairs above below ⊎ ((above ≡ high) × (below ≡ low)) → ComesBefore pairs above below ⊎ (IsAtOrBefore pairs above high × IsAtOrBefore pairs low below)
  step (inl old) = inl (straight above below old)
  step (inr new) = inr (inl new.0, inl (sym new.1))
through-one-more pairs high low _ _ (through above between below is rest) = step (pair-of-more pairs high low above between is) (through-one-more pairs high low between below rest) where
  before : IsPair pairs above between → IsAtOrBefore pairs between high → IsAtOrBefore pairs above high
  before old (inl same) = inr (subst (ComesBefore pairs above) same (straight above between old))
  before old (inr path) = inr (through above between high old path)

  step : IsPair pairs above between ⊎ ((above ≡ high) × (between ≡ low)) → ComesBefore pairs between below ⊎ (IsAtOrBefore pairs between high × IsAtOrBefore pairs low below) → ComesBefore pairs above below ⊎ (IsAtOrBefore pairs above high × IsAtOrBefore pairs low below)
  step (inl old) (inl path) = inl (through above between below old path)
  step (inl old) (inr both) = inr (before old both.0, both.1)
  step (inr new) (inl path) = inr (inl new.0, inr (subst (λ page. ComesBefore pairs page below) new.1 path))
  step (inr new) (inr both) = inr (inl new.0, both.1)

-- One more pair makes no circle where its low page does not stand before its high one.
pub stays-acyclic : (pairs : List Edge) (high low : ℕ) → ((page : ℕ) → ComesBefore pairs page page → ⊥) → high ≢ low → (ComesBefore pairs low high → ⊥) → (page : ℕ) → ComesBefore (pairs ++ pair_of high low ∷ []) page page → ⊥
stays-acyclic pairs high low acyclic differ not_before page path = step (through-one-more pairs high low page page path) where
  meets : IsAtOrBefore pairs page high → IsAtOrBefore pairs low page → ⊥
  meets (inl same) (inl is) = differ (sym (is ∙ same))
  meets (inl same) (inr second) = not_before (subst (ComesBefore pairs low) same second)
  meets (inr first) (inl is) = not_before (subst (λ p. ComesBefore pairs p high) (sym is) first)
  meets (inr first) (inr second) = not_before (joined pairs low page high second first)

  step : ComesBefore pairs page page ⊎ (IsAtOrBefore pairs page high × IsAtOrBefore pairs low page) → ⊥
  step (inl old) = acyclic page old
  step (inr both) = meets both.0 both.1
