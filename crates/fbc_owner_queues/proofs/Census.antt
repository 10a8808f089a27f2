-- There are no more living owners with requests than owners that live.
use Rattle.std.proofs.Common.{◌≡◌, ℕ, ◌+◌, ◌≤◌, Bool, true, false, ◌||◌, ◌==◌, nat_lt, if◌then◌else◌, List, [], ◌∷◌, length, refl, ◌∙◌, ap, arith}
use Rattle.std.specs.List.{All, AllByRecursion, fold, insert, take_while}
use Rattle.std.proofs.lemmas.Bool.Decides.{nat_tests}
use Rattle.std.proofs.lemmas.Grind.{common_steps}
use Rattle.std.proofs.lemmas.List.Edits.{length-insert}
use Rattle.std.proofs.lemmas.List.Elements.{recursion_from_All}
use Rattle.fbc_levels.specs.declared.resources.Request.{Request}
use Rattle.fbc_levels.specs.LockState.{LockState}
use Rattle.fbc_owner_queues.specs.Living.{has, with_owner, with_living, living_owners}
use Rattle.fbc_owner_queues.proofs.Members.{has-insert}

-- How many of these are not yet in the list.
abbrev missing : List ℕ → List ℕ → ℕ
missing [] os = 0
missing (c ∷ census) os = if has os c then missing census os else 1 + missing census os

missing-none : (census : List ℕ) → missing census [] ≤ length census
missing-none [] = omega arith
missing-none (c ∷ census) = omega (arith, missing-none census)

-- Where nobody leaves the list, no more are missing.
missing-more : (census os more : List ℕ) → ((x : ℕ) → has os x ≡ true → has more x ≡ true) → missing census more ≤ missing census os
missing-more [] os more keeps = omega arith
missing-more (c ∷ census) os more keeps = step (has os c) refl (has more c) refl (missing-more census os more keeps) where
  step : (a : Bool) → has os c ≡ a → (b : Bool) → has more c ≡ b → missing census more ≤ missing census os → (if b then missing census more else 1 + missing census more) ≤ (if a then missing census os else 1 + missing census os)
  step true is true also rest = rest
  step true is false also rest = absurd (let there : has more c ≡ true = keeps c is in cc)
  step false is true also rest = omega (arith, rest)
  step false is false also rest = omega (arith, rest)

-- Who comes into the list is missing no more.
missing-less : (census os more : List ℕ) (x : ℕ) → ((y : ℕ) → has os y ≡ true → has more y ≡ true) → has os x ≡ false → has more x ≡ true → has census x ≡ true → missing census more + 1 ≤ missing census os
missing-less [] os more x keeps out here of = absurd (cc)
missing-less (c ∷ census) os more x keeps out here of = step (c == x) refl (has os c) refl (has more c) refl of (missing-less census os more x keeps out here) (missing-more census os more keeps) where
  same : c == x ≡ true → c ≡ x
  same is = grind (arith, nat_tests)

  step : (e : Bool) → c == x ≡ e → (a : Bool) → has os c ≡ a → (b : Bool) → has more c ≡ b → e || has census x ≡ true → (has census x ≡ true → missing census more + 1 ≤ missing census os) → missing census more ≤ missing census os → (if b then missing census more else 1 + missing census more) + 1 ≤ (if a then missing census os else 1 + missing census os)
  step true is true was b now of' rest most = absurd (let not_there : has os c ≡ false = ap (has os) (same is) ∙ out in cc)
  step true is false was true now of' rest most = omega (arith, most)
  step true is false was false now of' rest most = absurd (let there : has more c ≡ true = ap (has more) (same is) ∙ here in cc)
  step false is true was true now of' rest most = rest of'
  step false is true was false now of' rest most = absurd (let there : has more c ≡ true = keeps c was in cc)
  step false is false was true now of' rest most = omega (arith, rest of')
  step false is false was false now of' rest most = omega (arith, rest of')

-- One living owner more is one missing owner less.
owner_fits : (census os : List ℕ) (o : ℕ) → has census o ≡ true → length (with_owner o os) + missing census (with_owner o os) ≤ length os + missing census os
owner_fits census os o of = step (has os o) refl where
  step : (b : Bool) → has os o ≡ b → length (if b then os else insert os (length (take_while (λ y. nat_lt y o) os)) o) + missing census (if b then os else insert os (length (take_while (λ y. nat_lt y o) os)) o) ≤ length os + missing census os
  step true is = omega arith
  step false is = new is (length (take_while (λ y. nat_lt y o) os)) (places (λ y. nat_lt y o)) where
    places : (p : ℕ → Bool) → length (take_while p os) ≤ length os
    places p = grind (arith, common_steps)

    new : has os o ≡ false → (n : ℕ) → n ≤ length os → length (insert os n o) + missing census (insert os n o) ≤ length os + missing census os
    new out n within =
        omega (arith, length-insert os n o within, missing-less census os (insert os n o) o (λ y there. has-insert os n o y ∙ grind (arith)) out (has-insert os n o o ∙ grind (arith, nat_tests)) of)

request_fits : (census os : List ℕ) (r : Request) → (r.alive ≡ true → has census r.owner ≡ true) → length (with_living os r) + missing census (with_living os r) ≤ length os + missing census os
request_fits census os r of = step r.alive refl where
  step : (b : Bool) → r.alive ≡ b → length (if b then with_owner r.owner os else os) + missing census (if b then with_owner r.owner os else os) ≤ length os + missing census os
  step true is = owner_fits census os r.owner (of is)
  step false is = omega arith

all_fit : (census : List ℕ) (rs : List Request) (os : List ℕ) → AllByRecursion (λ r. r.alive ≡ true → has census r.owner ≡ true) rs → length (fold with_living os rs) + missing census (fold with_living os rs) ≤ length os + missing census os
all_fit census [] os of = omega arith
all_fit census (r ∷ rs) os of = omega (arith, all_fit census rs (with_living os r) of.1, request_fits census os r of.0)

pub living_few : (s : LockState) (census : List ℕ) → All (λ r. r.alive ≡ true → has census r.owner ≡ true) s.requests → length (living_owners s) ≤ length census
living_few s census of =
    omega (arith, all_fit census s.requests [] (recursion_from_All (λ r. r.alive ≡ true → has census r.owner ≡ true) s.requests of), missing-none census)
