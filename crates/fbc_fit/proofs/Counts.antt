-- How many elements of a list pass a test, after a change of the list.
use Rattle.std.proofs.Common.{◌≡◌, suc, Bool, true, false, not, cond, List, [], ◌∷◌, ◌++◌, ◌+◌, map, length, get_or, Some, None, is_some, refl, arith}
use Rattle.std.proofs.lemmas.Grind.{common_steps}
use Rattle.std.proofs.lemmas.List.Elements.{All-head, All-tail}
use Rattle.std.specs.List.{All, AllPairs, filter, find}
use Rattle.fbc_lock_table.proofs.Pairs.{AllPairs-head, AllPairs-tail, NotBoth}

module _ {X : Type 0} where
  -- A change that the test does not see.
  pub count-map : (p : X → Bool) (f : X → X) → ((x : X) → p (f x) ≡ p x) → (xs : List X) → length (filter p (map f xs)) ≡ length (filter p xs)
  count-map p f same [] = refl
  count-map p f same (x ∷ xs) = grind (arith, common_steps, same x, count-map p f same xs)

  -- What passes nowhere is not found, and leaving it out changes nothing.
  none-found : (k : X → Bool) (xs : List X) → All (λ x. k x ≡ false) xs → find k xs ≡ None
  none-found k [] none = refl
  none-found k (x ∷ xs) none = grind (arith, All-head (λ y. k y ≡ false) x xs none, none-found k xs (All-tail (λ y. k y ≡ false) x xs none))

  none-left_out : (k : X → Bool) (xs : List X) → All (λ x. k x ≡ false) xs → filter (λ x. not (k x)) xs ≡ xs
  none-left_out k [] none = refl
  none-left_out k (x ∷ xs) none = grind (arith, All-head (λ y. k y ≡ false) x xs none, none-left_out k xs (All-tail (λ y. k y ≡ false) x xs none))

  module _ (k : X → Bool) (x : X) (xs : List X) (once : AllPairs (NotBoth k) (x ∷ xs)) (here : k x ≡ true) where
    not_again : (y : X) (t : Bool) → k y ≡ t → NotBoth k x y → k y ≡ false
    not_again y true is both = absurd (both here is)
    not_again y false is both = is

    rest_fails : All (λ y. k y ≡ false) xs
    rest_fails i d within = not_again (get_or xs i d) (k (get_or xs i d)) refl (AllPairs-head (NotBoth k) x xs once i d within)

    -- Where one element passes at most, none behind the first that does.
    pub no_more : find k xs ≡ None
    no_more = none-found k xs rest_fails

    pub no_more_out : filter (λ y. not (k y)) xs ≡ xs
    no_more_out = none-left_out k xs rest_fails

  -- The one that is left out passes: one less is left.
  pub one_less : (p k : X → Bool) → ((x : X) → k x ≡ true → p x ≡ true) → (xs : List X) → AllPairs (NotBoth k) xs → is_some (find k xs) ≡ true
      → length (filter p xs) ≡ suc (length (filter p (filter (λ x. not (k x)) xs)))
  one_less p k passes [] once there = absurd (cc)
  one_less p k passes (x ∷ xs) once there = go (k x) refl (one_less p k passes xs (AllPairs-tail (NotBoth k) x xs once)) there where
    go : (t : Bool) → k x ≡ t → (is_some (find k xs) ≡ true → length (filter p xs) ≡ suc (length (filter p (filter (λ y. not (k y)) xs))))
        → is_some (cond t (Some x) (find k xs)) ≡ true
        → length (filter p (x ∷ xs)) ≡ suc (length (filter p (cond (not t) (x ∷ filter (λ y. not (k y)) xs) (filter (λ y. not (k y)) xs))))
    go true here rest there' = grind (arith, common_steps, passes x here, no_more_out k x xs once here)
    go false other rest there' = grind (arith, common_steps, rest there')

-- How many pass among two lists.
pub count-append : {X : Type 0} (p : X → Bool) (xs ys : List X) → length (filter p (xs ++ ys)) ≡ length (filter p xs) + length (filter p ys)
count-append p [] ys = grind (arith)
count-append p (x ∷ xs) ys = grind (arith, common_steps, count-append p xs ys)

-- Two tests that agree where a third passes leave as many.
pub agree-counted : {X : Type 0} (p q k : X → Bool) (xs : List X) → All (λ x. p x ≡ true → q x ≡ k x) xs → length (filter p (filter (λ x. not (q x)) xs)) ≡ length (filter p (filter (λ x. not (k x)) xs))
agree-counted p q k [] agree = refl
agree-counted {X} p q k (x ∷ xs) agree = go (p x) refl (All-head (λ y. p y ≡ true → q y ≡ k y) x xs agree) (agree-counted p q k xs (All-tail (λ y. p y ≡ true → q y ≡ k y) x xs agree)) where
  go : (t : Bool) → p x ≡ t → (p x ≡ true → q x ≡ k x) → length (filter p (filter (λ y. not (q y)) xs)) ≡ length (filter p (filter (λ y. not (k y)) xs))
      → length (filter p (filter (λ y. not (q y)) (x ∷ xs))) ≡ length (filter p (filter (λ y. not (k y)) (x ∷ xs)))
  go true is here rest = grind (arith, common_steps, is, here is, rest)
  go false is here rest = grind (arith, common_steps, is, rest)
