-- The first of a list that passes a test, after each change of the list.
use Rattle.std.proofs.Common.{◌≡◌, ◌++◌, ◌∷◌, [], Bool, true, false, List, Some, None, refl, if◌then◌else◌, arith}
use Rattle.std.specs.Prelude.{filter, is_some, map}
use Rattle.std.specs.List.{find}
use Rattle.std.specs.Option.{option_map}
use Rattle.std.proofs.lemmas.Grind.{common_steps}

module _ {X : Type 0} (p : X → Bool) where
  -- It is the first one still where each item keeps what the test says.
  pub find-map : (f : X → X) → ((x : X) → p (f x) ≡ p x) → (xs : List X) → find p (map f xs) ≡ option_map f (find p xs)
  find-map f keeps [] = refl
  find-map f keeps (x ∷ xs) = grind (arith, common_steps, keeps x, find-map f keeps xs)

  -- It passes the test.
  pub find-passes : (xs : List X) (x : X) → find p xs ≡ Some x → p x ≡ true
  find-passes [] x e = absurd cc
  find-passes (y ∷ xs) x e = grind (arith, common_steps, e, find-passes xs x)

  -- It is the first one of those that are kept, where all that pass the test are.
  pub find-kept : (q : X → Bool) → ((x : X) → p x ≡ true → q x ≡ true) → (xs : List X) → find p (filter q xs) ≡ find p xs
  find-kept q kept [] = refl
  find-kept q kept (x ∷ xs) = grind (arith, common_steps, kept x, find-kept q kept xs)

  -- None is left where all that pass the test are taken away.
  pub find-gone : (q : X → Bool) → ((x : X) → p x ≡ true → q x ≡ false) → (xs : List X) → find p (filter q xs) ≡ None
  find-gone q gone [] = refl
  find-gone q gone (x ∷ xs) = grind (arith, common_steps, gone x, find-gone q gone xs)

  -- Where none passes the test, none of those that are kept does.
  pub find-fewer : (q : X → Bool) (xs : List X) → find p xs ≡ None → find p (filter q xs) ≡ None
  find-fewer q [] e = refl
  find-fewer q (x ∷ xs) e = grind (arith, common_steps, e, find-fewer q xs)

  -- The first one stays where others come behind.
  pub find-behind : (xs : List X) (x : X) → find p (xs ++ x ∷ []) ≡ (if is_some (find p xs) then find p xs else (if p x then Some x else None))
  find-behind [] x = refl
  find-behind (y ∷ xs) x = grind (arith, common_steps, find-behind xs x)

  -- Those that pass the test are all kept, where all that pass it are.
  pub filter-kept : (q : X → Bool) → ((x : X) → p x ≡ true → q x ≡ true) → (xs : List X) → filter p (filter q xs) ≡ filter p xs
  filter-kept q kept [] = refl
  filter-kept q kept (x ∷ xs) = grind (arith, common_steps, kept x, filter-kept q kept xs)
