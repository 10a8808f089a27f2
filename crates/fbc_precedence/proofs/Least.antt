-- The least page that no pair names another before.
use Rattle.std.proofs.Common.{◌≡◌, ◌≤◌, ℕ, min, nat_lt, Bool, true, false, ◌||◌, ◌==◌, List, [], ◌∷◌, ◌++◌, Option, Some, None, MatchOption, ◌∙◌, sym, subst, refl, arith}
use Rattle.std.proofs.lemmas.Bool.Decides.{nat_tests}
use Rattle.fbc_kinds.specs.declared.edges.Edge.{Edge}
use Rattle.fbc_precedence.specs.Pages.{has}
use Rattle.fbc_precedence.specs.Search.{is_blocked, AllBlocked, IsLeastFree, lesser}
use Rattle.fbc_precedence.proofs.Standing.{has-push, kept-by-push, there-by-push}

-- What is known of the pages so far.
abbrev pub IsLeastSoFar : List Edge → List ℕ → Option ℕ → Type 0
IsLeastSoFar pairs found least = MatchOption least (AllBlocked pairs found) (IsLeastFree pairs found)

-- A page of the list with one more is of the list or is that one.
one-of : (found : List ℕ) (page other : ℕ) (Goal : Type 0) → (has found other ≡ true → Goal) → (page ≡ other → Goal) → has (found ++ page ∷ []) other ≡ true → Goal
one-of found page other Goal old new is = step (has found other) refl (sym (has-push found page other) ∙ is) where
  step : (b : Bool) → has found other ≡ b → (b || ((page == other) || false)) ≡ true → Goal
  step true there is' = old there
  step false out is' = new (grind (arith, nat_tests, is'))

pub least-blocked : (pairs : List Edge) (found : List ℕ) (page : ℕ) (least : Option ℕ) → is_blocked pairs page ≡ true → IsLeastSoFar pairs found least → IsLeastSoFar pairs (found ++ page ∷ []) least
least-blocked pairs found page None blocked so_far = λ other is. one-of found page other (is_blocked pairs other ≡ true) (so_far other) (λ same. subst (λ p. is_blocked pairs p ≡ true) same blocked) is
least-blocked pairs found page (Some least) blocked so_far = record {
  among = kept-by-push found page least so_far.among;
  free = so_far.free;
  least = λ other is free. one-of found page other (least ≤ other) (λ there. so_far.least other there free) (λ same. absurd (let wrong : is_blocked pairs other ≡ true = subst (λ p. is_blocked pairs p ≡ true) same blocked in cc)) is;
}

pub least-free : (pairs : List Edge) (found : List ℕ) (page : ℕ) (least : Option ℕ) → is_blocked pairs page ≡ false → IsLeastSoFar pairs found least → IsLeastSoFar pairs (found ++ page ∷ []) (Some (lesser least page))
least-free pairs found page None free so_far = record {
  among = there-by-push found page;
  free = free;
  least = λ other is free'. one-of found page other (page ≤ other) (λ there. absurd (let wrong : is_blocked pairs other ≡ true = so_far other there in cc)) (λ same. omega (arith, same)) is;
}
least-free pairs found page (Some least) free so_far = step (nat_lt least page) refl where
  step : (b : Bool) → nat_lt least page ≡ b → IsLeastFree pairs (found ++ page ∷ []) (min least page)
  step true is =
      let same : min least page ≡ least = grind (arith, nat_tests, is) in
      rw same (record {
        among = kept-by-push found page least so_far.among;
        free = so_far.free;
        least = λ other is' free'. one-of found page other (least ≤ other) (λ there. so_far.least other there free') (λ same'. grind (arith, nat_tests, is, same')) is';
      })
  step false is =
      let same : min least page ≡ page = grind (arith, nat_tests, is) in
      rw same (record {
        among = there-by-push found page;
        free = free;
        least = λ other is' free'. one-of found page other (page ≤ other) (λ there. grind (arith, nat_tests, is, so_far.least other there free')) (λ same'. omega (arith, same')) is';
      })
