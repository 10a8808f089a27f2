-- Tests of some element of a list.
use Rattle.std.proofs.Common.{◌≡◌, ap, Bool, true, false, cond, ◌||◌, List, [], ◌∷◌, map, Some, None, refl, arith}
use Rattle.std.specs.List.{filter, find, list_any}

module _ {X : Type 0} where
  -- What passes one test passes the other.
  pub any_implied : (p q : X → Bool) → ((x : X) → p x ≡ true → q x ≡ true) → (xs : List X) → list_any p xs ≡ true → list_any q xs ≡ true
  any_implied p q from [] is = is
  any_implied p q from (x ∷ xs) is = go (p x) (q x) (from x) (list_any p xs) (list_any q xs) (any_implied p q from xs) is where
    go : (a b : Bool) → (a ≡ true → b ≡ true) → (c d : Bool) → (c ≡ true → d ≡ true) → a || c ≡ true → b || d ≡ true
    go a b first c d rest is = grind (arith, first, rest, is)

  pub list_any-map : (p : X → Bool) (f : X → X) (xs : List X) → list_any p (map f xs) ≡ list_any (λ x. p (f x)) xs
  list_any-map p f [] = refl
  list_any-map p f (x ∷ xs) = ap (λ b. p (f x) || b) (list_any-map p f xs)

  -- What passes one test after a change passed the other before.
  pub any_mapped : (p q : X → Bool) (f : X → X) → ((x : X) → p (f x) ≡ true → q x ≡ true) → (xs : List X) → list_any p (map f xs) ≡ true → list_any q xs ≡ true
  any_mapped p q f from xs is = any_implied (λ x. p (f x)) q from xs (rw (list_any-map p f xs) at is)

  pub none_such : (xs : List X) → list_any (λ _. false) xs ≡ true → ⊥
  none_such [] is = cc
  none_such (x ∷ xs) is = none_such xs is

  -- What is left passes where it stood.
  pub any_filter : (p q : X → Bool) (xs : List X) → list_any p (filter q xs) ≡ true → list_any p xs ≡ true
  any_filter p q [] is = is
  any_filter p q (x ∷ xs) is = go (q x) (p x) (any_filter p q xs) is where
    go : (b a : Bool) → (list_any p (filter q xs) ≡ true → list_any p xs ≡ true) → list_any p (cond b (x ∷ filter q xs) (filter q xs)) ≡ true → p x || list_any p xs ≡ true
    go b a rest is = grind (arith, rest, is)

  -- A test passes in a list if it does for what is found there.
  pub found_any : (p q : X → Bool) (x : X) → q x ≡ true → (xs : List X) → find p xs ≡ Some x → list_any q xs ≡ true
  found_any p q x passes [] is = absurd cc
  found_any p q x passes (y ∷ ys) is = go (p y) (found_any p q x passes ys) is where
    go : (b : Bool) → (find p ys ≡ Some x → list_any q ys ≡ true) → cond b (Some y) (find p ys) ≡ Some x → q y || list_any q ys ≡ true
    go true rest is = grind (arith, passes, is)
    go false rest is = grind (arith, rest is)

  -- Where nothing is found, nothing passes a stricter test.
  pub none_any : (p q : X → Bool) → ((x : X) → q x ≡ true → p x ≡ true) → (xs : List X) → find p xs ≡ None → list_any q xs ≡ false
  none_any p q from [] is = refl
  none_any p q from (x ∷ xs) is = go (p x) (q x) (from x) (none_any p q from xs) is where
    go : (b a : Bool) → (a ≡ true → b ≡ true) → (find p xs ≡ None → list_any q xs ≡ false) → cond b (Some x) (find p xs) ≡ None → a || list_any q xs ≡ false
    go true a first rest is = absurd cc
    go false true first rest is = absurd (grind (arith, first refl))
    go false false first rest is = rest is

  -- What is found after a change is what the change makes.
  pub found_image : (p : X → Bool) (f : X → X) (P : X → Type 0) → ((x : X) → P (f x)) → (xs : List X) (y : X) → find p (map f xs) ≡ Some y → P y
  found_image p f P all [] y is = absurd cc
  found_image p f P all (x ∷ xs) y is = go (p (f x)) (found_image p f P all xs y) is where
    go : (b : Bool) → (find p (map f xs) ≡ Some y → P y) → cond b (Some (f x)) (find p (map f xs)) ≡ Some y → P y
    go true rest is' = let same : f x ≡ y = cc in rw (← same) (all x)
    go false rest is' = rest is'
