-- How many of a list do not pass a test, and how that number falls.
use Rattle.std.proofs.Common.{◌≡◌, ℕ, ◌+◌, ◌≤◌, Bool, true, false, not, ◌||◌, ◌&&◌, cond, if◌then◌else◌, List, [], ◌∷◌, length, refl, arith}
use Rattle.std.specs.List.{filter, list_any}
use Rattle.std.proofs.Math.Bool.{or-true}

-- How many do not pass.
abbrev pub left : {X : Type 0} → (X → Bool) → List X → ℕ
left test [] = 0
left test (x ∷ xs) = if test x then left test xs else 1 + left test xs

pub left-most : {X : Type 0} (test : X → Bool) (xs : List X) → left test xs ≤ length xs
left-most test [] = omega arith
left-most test (x ∷ xs) = step (test x) (left-most test xs) where
  step : (b : Bool) → left test xs ≤ length xs → (if b then left test xs else 1 + left test xs) ≤ length (x ∷ xs)
  step true rest = omega (arith, rest)
  step false rest = omega (arith, rest)

-- Where all that passed pass on, no more are left.
pub left-more : {X : Type 0} (old new : X → Bool) → ((x : X) → old x ≡ true → new x ≡ true) → (xs : List X) → left new xs ≤ left old xs
left-more old new keeps [] = omega arith
left-more old new keeps (x ∷ xs) = step (old x) (new x) (keeps x) (left-more old new keeps xs) where
  step : (a b : Bool) → (a ≡ true → b ≡ true) → left new xs ≤ left old xs → (if b then left new xs else 1 + left new xs) ≤ (if a then left old xs else 1 + left old xs)
  step true true keep rest = rest
  step true false keep rest = absurd (let wrong : false ≡ true = keep refl in cc)
  step false true keep rest = omega (arith, rest)
  step false false keep rest = omega (arith, rest)

-- Where one passes now that did not, fewer are left.
pub left-less : {X : Type 0} (old new : X → Bool) → ((x : X) → old x ≡ true → new x ≡ true) → (xs : List X) → list_any (λ x. not (old x) && new x) xs ≡ true → left new xs + 1 ≤ left old xs
left-less old new keeps [] some = absurd (cc)
left-less old new keeps (x ∷ xs) some = step (old x) (new x) (keeps x) some (left-less old new keeps xs) (left-more old new keeps xs) where
  step : (a b : Bool) → (a ≡ true → b ≡ true) → ((not a && b) || list_any (λ x. not (old x) && new x) xs) ≡ true → (list_any (λ x. not (old x) && new x) xs ≡ true → left new xs + 1 ≤ left old xs) → left new xs ≤ left old xs → (if b then left new xs else 1 + left new xs) + 1 ≤ (if a then left old xs else 1 + left old xs)
  step true true keep some' rest most = rest some'
  step true false keep some' rest most = absurd (let wrong : false ≡ true = keep refl in cc)
  step false true keep some' rest most = omega (arith, most)
  step false false keep some' rest most = omega (arith, rest some')

-- What passes one test passes the other.
pub any-weaker : {X : Type 0} (p q : X → Bool) → ((x : X) → p x ≡ true → q x ≡ true) → (xs : List X) → list_any p xs ≡ true → list_any q xs ≡ true
any-weaker p q gives [] some = absurd (cc)
any-weaker p q gives (x ∷ xs) some = step (p x) (q x) (gives x) some (any-weaker p q gives xs) where
  step : (a b : Bool) → (a ≡ true → b ≡ true) → (a || list_any p xs) ≡ true → (list_any p xs ≡ true → list_any q xs ≡ true) → (b || list_any q xs) ≡ true
  step a true give some' rest = refl
  step true false give some' rest = absurd (let wrong : false ≡ true = give refl in cc)
  step false false give some' rest = rest some'

-- What some of a part pass, some of the whole pass.
pub any-filtered : {X : Type 0} (p test : X → Bool) (xs : List X) → list_any test (filter p xs) ≡ true → list_any test xs ≡ true
any-filtered p test [] some = absurd (cc)
any-filtered p test (x ∷ xs) some = step (p x) some (any-filtered p test xs) where
  either : (a b c : Bool) → (a || b) ≡ true → (b ≡ true → c ≡ true) → (a || c) ≡ true
  either true b c some' rest = refl
  either false b c some' rest = rest some'

  step : (a : Bool) → list_any test (cond a (x ∷ filter p xs) (filter p xs)) ≡ true → (list_any test (filter p xs) ≡ true → list_any test xs ≡ true) → (test x || list_any test xs) ≡ true
  step true some' rest = either (test x) (list_any test (filter p xs)) (list_any test xs) some' rest
  step false some' rest = either (test x) true (list_any test xs) (or-true (test x)) (λ is. rest some')
