-- The living owners are in rising order, and are those that some request says to live.
use Rattle.std.proofs.Common.{◌≡◌, ℕ, suc, ◌+◌, ◌<◌, Bool, true, false, ◌||◌, ◌&&◌, ◌==◌, nat_lt, if◌then◌else◌, List, [], ◌∷◌, length, subst, refl, sym, ◌∙◌, ap, arith}
use Rattle.std.specs.List.{AllPairs, AllByRecursion, list_any, fold, insert, take_while, prefix_len}
use Rattle.std.proofs.lemmas.Bool.Decides.{nat_tests}
use Rattle.std.proofs.lemmas.List.Elements.{All-from_recursion}
use Rattle.std.proofs.lemmas.List.Kept.{AllPairs-cons}
use Rattle.std.proofs.Math.Bool.{and-false, and-true, or-false}
use Rattle.fbc_levels.specs.declared.resources.Request.{Request}
use Rattle.fbc_levels.specs.LockState.{LockState, is_alive_of}
use Rattle.fbc_owner_queues.specs.Living.{has, with_owner, with_living, living_owners}
use Rattle.fbc_owner_queues.proofs.Members.{has-insert}

-- Each is less than all behind it.
abbrev IsRising : List ℕ → Type 0
IsRising [] = Unit {0}
IsRising (x ∷ xs) = AllByRecursion (λ y. x < y) xs × IsRising xs

above : (x y : ℕ) → x < y → (ys : List ℕ) → AllByRecursion (λ z. y < z) ys → AllByRecursion (λ z. x < z) ys
above x y less [] all = tt
above x y less (z ∷ ys) all = (omega (arith, all.0), above x y less ys all.1)

-- Where the owner comes into rising owners.
abbrev place : ℕ → List ℕ → ℕ
place o os = length (take_while (λ y. nat_lt y o) os)

place_behind : (o x : ℕ) (os : List ℕ) → nat_lt x o ≡ true → place o (x ∷ os) ≡ suc (place o os)
place_behind o x os is = rw is (rw (one (prefix_len (λ y. nat_lt y o) os)) refl) where
  one : (n : ℕ) → 1 + n ≡ suc n
  one n = omega arith

place_here : (o x : ℕ) (os : List ℕ) → nat_lt x o ≡ false → place o (x ∷ os) ≡ 0
place_here o x os is = rw is refl

insert-above : (b o : ℕ) (os : List ℕ) → b < o → AllByRecursion (λ y. b < y) os → AllByRecursion (λ y. b < y) (insert os (place o os) o)
insert-above b o [] less all = (less, tt)
insert-above b o (x ∷ os) less all = step (nat_lt x o) refl (insert-above b o os less all.1) where
  Above : ℕ → Type 0
  Above n = AllByRecursion (λ y. b < y) (insert (x ∷ os) n o)

  step : (c : Bool) → nat_lt x o ≡ c → AllByRecursion (λ y. b < y) (insert os (place o os) o) → AllByRecursion (λ y. b < y) (insert (x ∷ os) (place o (x ∷ os)) o)
  step true is rest = subst Above (sym (place_behind o x os is)) (all.0, rest)
  step false is rest = subst Above (sym (place_here o x os is)) (less, all)

rising-insert : (o : ℕ) (os : List ℕ) → has os o ≡ false → IsRising os → IsRising (insert os (place o os) o)
rising-insert o [] out rising = (tt, tt)
rising-insert o (x ∷ os) out rising = step (nat_lt x o) refl (λ rest. rising-insert o os rest rising.1) where
  RisingAt : ℕ → Type 0
  RisingAt n = IsRising (insert (x ∷ os) n o)

  other : (x == o) ≡ false
  other = first (x == o) (has os o) out where
    first : (a b : Bool) → (a || b) ≡ false → a ≡ false
    first a b is = grind (arith)

  rest : has os o ≡ false
  rest = second (x == o) (has os o) out where
    second : (a b : Bool) → (a || b) ≡ false → b ≡ false
    second a b is = grind (arith)

  step : (c : Bool) → nat_lt x o ≡ c → (has os o ≡ false → IsRising (insert os (place o os) o)) → IsRising (insert (x ∷ os) (place o (x ∷ os)) o)
  step true is on =
      let less : x < o = grind (arith, nat_tests) in
      subst RisingAt (sym (place_behind o x os is)) (insert-above x o os less rising.0, on rest)
  step false is on =
      let less : o < x = grind (arith, nat_tests) in
      subst RisingAt (sym (place_here o x os is)) ((less, above o x less os rising.0), rising)

rising-owner : (o : ℕ) (os : List ℕ) → IsRising os → IsRising (with_owner o os)
rising-owner o os rising = step (has os o) refl where
  step : (b : Bool) → has os o ≡ b → IsRising (if b then os else insert os (place o os) o)
  step true is = rising
  step false is = rising-insert o os is rising

rising-living : (r : Request) (os : List ℕ) → IsRising os → IsRising (with_living os r)
rising-living r os rising = step r.alive where
  step : (b : Bool) → IsRising (if b then with_owner r.owner os else os)
  step true = rising-owner r.owner os rising
  step false = rising

rising-all : (rs : List Request) (os : List ℕ) → IsRising os → IsRising (fold with_living os rs)
rising-all [] os rising = rising
rising-all (r ∷ rs) os rising = rising-all rs (with_living os r) (rising-living r os rising)

pairs : (os : List ℕ) → IsRising os → AllPairs (λ o p. o < p) os
pairs [] rising = λ i j d below within. absurd (omega arith)
pairs (x ∷ xs) rising = AllPairs-cons (λ o p. o < p) x xs (All-from_recursion (λ y. x < y) xs rising.0) (pairs xs rising.1)

pub living_rising : (s : LockState) → AllPairs (λ o p. o < p) (living_owners s)
living_rising s = pairs (living_owners s) (rising-all s.requests [] tt)

-- Who comes in.
has-owner : (o x : ℕ) (os : List ℕ) → has (with_owner o os) x ≡ ((o == x) || has os x)
has-owner o x os = step (has os o) refl where
  within : has os o ≡ true → has os x ≡ ((o == x) || has os x)
  within is = by (o == x) refl where
    by : (e : Bool) → (o == x) ≡ e → has os x ≡ (e || has os x)
    by true same = let is_same : o ≡ x = grind (arith, nat_tests) in ap (has os) (sym is_same) ∙ is
    by false same = refl

  step : (b : Bool) → has os o ≡ b → has (if b then os else insert os (place o os) o) x ≡ ((o == x) || has os x)
  step true is = within is
  step false is = has-insert os (place o os) o x

has-living : (r : Request) (x : ℕ) (os : List ℕ) → has (with_living os r) x ≡ (is_alive_of x r || has os x)
has-living r x os = step r.alive where
  step : (b : Bool) → has (if b then with_owner r.owner os else os) x ≡ (((r.owner == x) && b) || has os x)
  step true = rw (and-true (r.owner == x)) (has-owner r.owner x os)
  step false = rw (and-false (r.owner == x)) refl

has-all : (rs : List Request) (x : ℕ) (os : List ℕ) → has (fold with_living os rs) x ≡ (list_any (is_alive_of x) rs || has os x)
has-all [] x os = refl
has-all (r ∷ rs) x os = has-all rs x (with_living os r) ∙ rw (has-living r x os) (swap (list_any (is_alive_of x) rs) (is_alive_of x r) (has os x)) where
  swap : (a b c : Bool) → (a || (b || c)) ≡ ((b || a) || c)
  swap a b c = grind (arith)

pub living_those : (s : LockState) (owner : ℕ) → has (living_owners s) owner ≡ list_any (is_alive_of owner) s.requests
living_those s owner = has-all s.requests owner [] ∙ or-false (list_any (is_alive_of owner) s.requests)
