-- The search for all pages at or before a page.
use Rattle.std.proofs.Common.{◌≡◌, ◌≤◌, inl, inr, ℕ, ◌+◌, ◌-◌, ◌<◌, Bool, true, false, ◌||◌, ◌==◌, if◌then◌else◌, List, [], ◌∷◌, ◌++◌, length, ◌∙◌, sym, ap, subst, refl, arith}
use Rattle.std.specs.List.{list_any}
use Rattle.std.proofs.lemmas.Bool.Decides.{nat_tests}
use Rattle.std.proofs.lemmas.List.{length_push}
use Rattle.fbc_kinds.specs.declared.edges.Edge.{Edge}
use Rattle.fbc_precedence.specs.Pages.{has, pages_of}
use Rattle.fbc_kinds.specs.Order.{straight, through}
use Rattle.fbc_precedence.specs.Precedence.{pair_of, IsPair, ComesBefore, IsAtOrBefore}
use Rattle.fbc_precedence.specs.Search.{leads_into, IsClosed, LeadsInto}
use Rattle.fbc_precedence.proofs.Counting.{left, left-most}
use Rattle.fbc_precedence.proofs.Pairs.{pair-passes}
use Rattle.fbc_precedence.proofs.Standing.{has-push, kept-by-push, left-by-push, among-pages, among-pair}

-- What is found so far: the page, and else only pages before it; the rest is left to be found.
pub record IsFoundFor (pairs : List Edge) (page : ℕ) (found : List ℕ) : Type 0 where
  pub itself : has found page ≡ true
  pub before : (other : ℕ) → has found other ≡ true → IsAtOrBefore pairs other page
  pub rest : length found + left (has found) (page ∷ pages_of pairs) ≤ length (pages_of pairs) + 1

pub found-first : (pairs : List Edge) (page : ℕ) → IsFoundFor pairs page (page ∷ [])
found-first pairs page = record {
  itself = grind (arith, nat_tests);
  before = λ other is. inl (grind (arith, nat_tests, is));
  rest = rest;
} where
  rest : length (page ∷ []) + left (has (page ∷ [])) (page ∷ pages_of pairs) ≤ length (pages_of pairs) + 1
  rest = step (has (page ∷ []) page) (grind (arith, nat_tests)) where
    step : (b : Bool) → b ≡ true → length (page ∷ []) + (if b then left (has (page ∷ [])) (pages_of pairs) else 1 + left (has (page ∷ [])) (pages_of pairs)) ≤ length (pages_of pairs) + 1
    step true is = omega (arith, left-most (has (page ∷ [])) (pages_of pairs))
    step false is = absurd (cc)

-- A page that leads to one of them is before the page too.
leads-to : (pairs : List Edge) (page high low : ℕ) → IsPair pairs high low → IsAtOrBefore pairs low page → IsAtOrBefore pairs high page
leads-to pairs page high low is (inl same) = inr (subst (ComesBefore pairs high) same (straight high low is))
leads-to pairs page high low is (inr path) = inr (through high low page is path)

pub found-more : (pairs : List Edge) (page : ℕ) (found : List ℕ) (high : ℕ) → IsFoundFor pairs page found → LeadsInto pairs found high → IsFoundFor pairs page (found ++ high ∷ [])
found-more pairs page found high f into = record {
  itself = kept-by-push found high page f.itself;
  before = λ other is. before other (has found other) refl (sym (has-push found high other) ∙ is);
  rest = omega (arith, f.rest, length_push found high, left-by-push (page ∷ pages_of pairs) found high among into.outside);
} where
  among : has (page ∷ pages_of pairs) high ≡ true
  among = grind (arith, (among-pair (pages_of pairs) pairs high into.low (among-pages pairs) into.pair).0)

  before : (other : ℕ) (b : Bool) → has found other ≡ b → (b || ((high == other) || false)) ≡ true → IsAtOrBefore pairs other page
  before other true there is = f.before other there
  before other false there is =
      let same : high ≡ other = grind (arith, nat_tests, is) in
      subst (λ p. IsAtOrBefore pairs p page) same (leads-to pairs page high into.low into.pair (f.before into.low into.inside))

-- Where no pair leads into them from outside, all are found.
closed-pair : (pairs : List Edge) (found : List ℕ) (high low : ℕ) → IsClosed pairs found → IsPair pairs high low → has found low ≡ true → has found high ≡ true
closed-pair pairs found high low closed is there = step (has found high) refl where
  step : (b : Bool) → has found high ≡ b → b ≡ true
  step true in_it = refl
  step false out =
      absurd (let passes : leads_into found (pair_of high low) ≡ true = rw (there, out) refl in
      let some : list_any (leads_into found) pairs ≡ true = pair-passes (leads_into found) pairs high low is passes in
      cc)

closed-path : (pairs : List Edge) (found : List ℕ) (high low : ℕ) → IsClosed pairs found → has found low ≡ true → ComesBefore pairs high low → has found high ≡ true
closed-path pairs found _ _ closed there (straight high low is) = closed-pair pairs found high low closed is there
closed-path pairs found _ _ closed there (through high between low is rest) = closed-pair pairs found high between closed is (closed-path pairs found between low closed there rest)

pub found-all : (pairs : List Edge) (page : ℕ) (found : List ℕ) → IsFoundFor pairs page found → IsClosed pairs found → (other : ℕ) → IsAtOrBefore pairs other page → has found other ≡ true
found-all pairs page found f closed other (inl same) = rw same f.itself
found-all pairs page found f closed other (inr path) = closed-path pairs found other page closed f.itself path

-- One page more is one less that may come.
pub found-fewer : (pairs : List Edge) (page : ℕ) (found more : List ℕ) (high : ℕ) → length (pages_of pairs) ≤ 512 → more ≡ found ++ high ∷ [] → IsFoundFor pairs page more → 513 - length more < 513 - length found
found-fewer pairs page found more high few is f =
    let longer : length more ≡ length found + 1 = ap length is ∙ length_push found high in
    omega (arith, few, longer, f.rest)
