-- The page that is written next.
use Rattle.std.proofs.Common.{◌≡◌, ◌↔◌, inl, inr, ℕ, Bool, true, false, ◌||◌, ◌==◌, List, [], ◌∷◌, Option, Some, None, MatchOption, unwrap_or, sym, ap, subst, refl, arith}
use Rattle.std.proofs.lemmas.Bool.Decides.{nat_tests}
use Rattle.std.proofs.lemmas.Bool.{or_right}
use Rattle.fbc_kinds.specs.declared.edges.Edge.{Edge}
use Rattle.fbc_precedence.specs.Pages.{has}
use Rattle.fbc_precedence.specs.Precedence.{ComesBefore, IsBlocked, IsAtOrBefore, IsNextToWrite}
use Rattle.fbc_precedence.specs.Search.{is_blocked, AllBlocked, IsLeastFree}
use Rattle.fbc_precedence.proofs.Paths.{joined, path-blocks, blocked-by}

module _ (pairs : List Edge) (acyclic : (page : ℕ) → ComesBefore pairs page page → ⊥) where
  -- One of these pages has none of the others before it.
  abbrev IsFirstOf : List ℕ → ℕ → Type 0
  IsFirstOf found first = (other : ℕ) → has found other ≡ true → ComesBefore pairs other first → ⊥

  some-first : (x : ℕ) (found : List ℕ) → ((first : ℕ) → has (x ∷ found) first ≡ true → IsFirstOf (x ∷ found) first → ⊥) → ⊥
  some-first x [] none = none x (grind (arith, nat_tests)) (λ other is path. acyclic x (subst (λ p. ComesBefore pairs p x) (sym (alone other is)) path)) where
    alone : (other : ℕ) → ((x == other) || false) ≡ true → x ≡ other
    alone other is = grind (arith, nat_tests, is)
  some-first x (y ∷ found) none = some-first y found (λ first is firsts. none first (later first is) (λ other there path. step other first is firsts (x == other) refl there path)) where
    later : (first : ℕ) → has (y ∷ found) first ≡ true → has (x ∷ y ∷ found) first ≡ true
    later first is = or_right (x == first) (has (y ∷ found) first) is

    -- X stands before what is first of the others: then x is first of all.
    earliest : (first : ℕ) → IsFirstOf (y ∷ found) first → ComesBefore pairs x first → IsFirstOf (x ∷ y ∷ found) x
    earliest first firsts up other there path = case (x == other) refl there where
      case : (b : Bool) → (x == other) ≡ b → (b || has (y ∷ found) other) ≡ true → ⊥
      case true same there' = acyclic x (subst (λ p. ComesBefore pairs p x) (sym (grind (arith, nat_tests, same))) path)
      case false out there' = firsts other there' (joined pairs other x first path up)

    step : (other first : ℕ) → has (y ∷ found) first ≡ true → IsFirstOf (y ∷ found) first → (b : Bool) → (x == other) ≡ b → (b || has (y ∷ found) other) ≡ true → ComesBefore pairs other first → ⊥
    step other first is firsts true same there path =
        let up : ComesBefore pairs x first = subst (λ p. ComesBefore pairs p first) (sym (grind (arith, nat_tests, same))) path in
        none x (grind (arith, nat_tests)) (earliest first firsts up)
    step other first is firsts false out there path = firsts other there path

  module _ (page : ℕ) (found : List ℕ) (are : (other : ℕ) → (has found other ≡ true) ↔ IsAtOrBefore pairs other page) where
    -- Not each of them is blocked.
    not-all : AllBlocked pairs found → ⊥
    not-all all = from found refl where
      none-first : (first : ℕ) → has found first ≡ true → IsFirstOf found first → ⊥
      none-first first there firsts = by (blocked-by pairs first (all first there)) where
        before : (high : ℕ) → ComesBefore pairs high first → IsAtOrBefore pairs first page → IsAtOrBefore pairs high page
        before high path (inl same) = inr (subst (ComesBefore pairs high) same path)
        before high path (inr rest) = inr (joined pairs high first page path rest)

        by : IsBlocked pairs first → ⊥
        by some = firsts some.0 ((are some.0).1 (before some.0 some.1 ((are first).0 there))) some.1

      from : (pages : List ℕ) → found ≡ pages → ⊥
      from [] is = absurd (let there : has found page ≡ true = (are page).1 (inl refl) in let none : has found page ≡ false = ap (λ pages. has pages page) is in cc)
      from (x ∷ rest) is = some-first x rest (subst (λ pages. ((first : ℕ) → has pages first ≡ true → IsFirstOf pages first → ⊥)) is none-first)

    pub next-is : (least : Option ℕ) → MatchOption least (AllBlocked pairs found) (IsLeastFree pairs found) → IsNextToWrite pairs page (unwrap_or least page)
    next-is None all = absurd (not-all all)
    next-is (Some least) is = record {
      among = (are least).0 is.among;
      free = λ some. (let blocked = path-blocks pairs some.0 least some.1 in absurd (let free = is.free in cc));
      least = λ other at free. is.least other ((are other).1 at) (not-blocked other free);
    } where
      not-blocked : (other : ℕ) → (IsBlocked pairs other → ⊥) → is_blocked pairs other ≡ false
      not-blocked other free = step (is_blocked pairs other) refl where
        step : (b : Bool) → is_blocked pairs other ≡ b → b ≡ false
        step true is' = absurd (free (blocked-by pairs other is'))
        step false is' = refl
