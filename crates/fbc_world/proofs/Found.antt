-- What is found in a list after its elements are changed, or some of them taken out.
use Rattle.std.proofs.Common.{◌≡◌, Bool, true, false, cond, if◌then◌else◌, List, [], ◌∷◌, map, get_or, Some, None, refl, arith}
use Rattle.std.specs.List.{All, AllPairs, filter, find}
use Rattle.std.specs.Option.{option_and_then, option_map}
use Rattle.std.proofs.lemmas.List.Elements.{All-head, All-tail}
use Rattle.fbc_lock_table.proofs.Pairs.{NotBoth, AllPairs-head, AllPairs-tail}

module _ {X : Type 0} (p : X → Bool) where
  -- What is found passes.
  pub find_passes : (xs : List X) (x : X) → find p xs ≡ Some x → p x ≡ true
  find_passes [] x found = absurd cc
  find_passes (y ∷ ys) x found = go (p y) refl (find_passes ys x) found where
    go : (b : Bool) → p y ≡ b → (find p ys ≡ Some x → p x ≡ true) → cond b (Some y) (find p ys) ≡ Some x → p x ≡ true
    go true passes later is = grind (arith, passes, is)
    go false passes later is = later is

  -- A change that the test does not see.
  pub find_map : (f : X → X) → ((x : X) → p (f x) ≡ p x) → (xs : List X) → find p (map f xs) ≡ option_map f (find p xs)
  find_map f same [] = refl
  find_map f same (x ∷ xs) = grind (arith, same x, find_map f same xs)

  -- All that pass stay.
  pub find_filter-all : (q : X → Bool) → ((x : X) → p x ≡ true → q x ≡ true) → (xs : List X) → find p (filter q xs) ≡ find p xs
  find_filter-all q stay [] = refl
  find_filter-all q stay (x ∷ xs) = grind (arith, stay x, find_filter-all q stay xs)

  -- None that passes stays.
  pub find_filter-none : (q : X → Bool) → ((x : X) → p x ≡ true → q x ≡ false) → (xs : List X) → find p (filter q xs) ≡ None
  find_filter-none q go [] = refl
  find_filter-none q go (x ∷ xs) = grind (arith, go x, find_filter-none q go xs)

  none_passes : (q : X → Bool) (xs : List X) → All (λ x. p x ≡ false) xs → find p (filter q xs) ≡ None
  none_passes q [] none = refl
  none_passes q (x ∷ xs) none = grind (arith, All-head (λ y. p y ≡ false) x xs none, none_passes q xs (All-tail (λ y. p y ≡ false) x xs none))

  -- At most one passes: it is found where it stays.
  abbrev StaysOnly : (X → Bool) → List X → Type 0
  StaysOnly q xs = find p (filter q xs) ≡ option_and_then (λ x. if q x then Some x else None) (find p xs)

  pub find_filter-once : (q : X → Bool) (xs : List X) → AllPairs (NotBoth p) xs → StaysOnly q xs
  find_filter-once q [] once = refl
  find_filter-once q (x ∷ xs) once =
      go (p x) refl (q x) refl (find_filter-once q xs (AllPairs-tail (NotBoth p) x xs once)) where
        other : (y : X) (b : Bool) → p y ≡ b → (p y ≡ true → ⊥) → p y ≡ false
        other y true is both = absurd (both is)
        other y false is both = is

        others : p x ≡ true → All (λ y. p y ≡ false) xs
        others passes k d within = other (get_or xs k d) (p (get_or xs k d)) refl (AllPairs-head (NotBoth p) x xs once k d within passes)

        go : (b : Bool) → p x ≡ b → (c : Bool) → q x ≡ c → StaysOnly q xs
            → find p (cond c (x ∷ filter q xs) (filter q xs)) ≡ option_and_then (λ y. if q y then Some y else None) (cond b (Some x) (find p xs))
        go true is true stays rest = grind (arith, is, stays)
        go true is false stays rest = grind (arith, stays, none_passes q xs (others is))
        go false is true stays rest = grind (arith, is, rest)
        go false is false stays rest = rest
