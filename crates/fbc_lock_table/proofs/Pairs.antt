-- Facts on lists: what holds of pairs after each element is changed, and what it means that a search finds nothing.
use Rattle.std.proofs.Common.{◌≡◌, suc, ◌<◌, ◌||◌, Bool, true, false, cond, List, [], ◌∷◌, map, length, get_or, Some, None, refl, arith}
use Rattle.std.specs.List.{All, AllPairs, filter, find, reduce, list_any}
use Rattle.std.proofs.lemmas.List.{length-map, get_or-map}
use Rattle.std.proofs.lemmas.List.Elements.{All-nil, All-cons}

-- A relation of the pairs becomes another where each element is changed, if it does so for any two elements with P.
pub AllPairs-map : {X : Type 0} (R S : X → X → Type 0) (P : X → Type 0) (f : X → X) → ((x y : X) → P x → P y → R x y → S (f x) (f y)) → (xs : List X) → All P xs → AllPairs R xs → AllPairs S (map f xs)
AllPairs-map R S P f step xs all pairs i j d below within =
    let size = length-map xs f in
    let there : j < length xs = omega arith in
    let here : i < length xs = omega arith in
    rw (get_or-map f xs i d d here, get_or-map f xs j d d there) (step _ _ (all i d here) (all j d there) (pairs i j d below there))

-- What is not found is nowhere.
pub none-find : {X : Type 0} (p : X → Bool) (xs : List X) → find p xs ≡ None → All (λ x. p x ≡ false) xs
none-find p [] none = All-nil (λ x. p x ≡ false)
none-find {X} p (x ∷ xs) none = go (p x) refl (none-find p xs) none where
  go : (b : Bool) → p x ≡ b → (find p xs ≡ None → All (λ y. p y ≡ false) xs) → cond b (Some x) (find p xs) ≡ None → All (λ y. p y ≡ false) (x ∷ xs)
  go true is rest some = absurd (cc)
  go false is rest none' = All-cons (λ y. p y ≡ false) x xs is (rest none')

pub none-reduce : {X : Type 0} (f : X → X → X) (p : X → Bool) (xs : List X) → reduce f (filter p xs) ≡ None → All (λ x. p x ≡ false) xs
none-reduce f p [] none = All-nil (λ x. p x ≡ false)
none-reduce {X} f p (x ∷ xs) none = go (p x) refl (none-reduce f p xs) none where
  go : (b : Bool) → p x ≡ b → (reduce f (filter p xs) ≡ None → All (λ y. p y ≡ false) xs) → reduce f (cond b (x ∷ filter p xs) (filter p xs)) ≡ None → All (λ y. p y ≡ false) (x ∷ xs)
  go true is rest some = absurd (cc)
  go false is rest none' = All-cons (λ y. p y ≡ false) x xs is (rest none')

pub none-any : {X : Type 0} (p : X → Bool) (xs : List X) → list_any p xs ≡ false → All (λ x. p x ≡ false) xs
none-any p [] none = All-nil (λ x. p x ≡ false)
none-any {X} p (x ∷ xs) none = go (p x) refl (none-any p xs) none where
  go : (b : Bool) → p x ≡ b → (list_any p xs ≡ false → All (λ y. p y ≡ false) xs) → b || list_any p xs ≡ false → All (λ y. p y ≡ false) (x ∷ xs)
  go true is rest some = absurd (cc)
  go false is rest none' = All-cons (λ y. p y ≡ false) x xs is (rest none')

-- A relation of all pairs holds of the pairs behind the first, and of the first and each behind it.
pub AllPairs-tail : {X : Type 0} (R : X → X → Type 0) (x : X) (xs : List X) → AllPairs R (x ∷ xs) → AllPairs R xs
AllPairs-tail R x xs pairs i j d below within =
    let below' : suc i < suc j = omega arith in
    let within' : suc j < length (x ∷ xs) = omega arith in
    pairs (suc i) (suc j) d below' within'

pub AllPairs-head : {X : Type 0} (R : X → X → Type 0) (x : X) (xs : List X) → AllPairs R (x ∷ xs) → All (R x) xs
AllPairs-head R x xs pairs k d within =
    let below : 0 < suc k = omega arith in
    let within' : suc k < length (x ∷ xs) = omega arith in
    pairs 0 (suc k) d below within'

-- The two do not both pass.
abbrev pub NotBoth : {X : Type 0} → (X → Bool) → X → X → Type 0
NotBoth p x y = p x ≡ true → p y ≡ true → ⊥

-- Where no two elements pass, one that passes is the one that is found.
pub find-only : {X : Type 0} (p : X → Bool) (xs : List X) → AllPairs (NotBoth p) xs → All (λ x. p x ≡ true → find p xs ≡ Some x) xs
find-only p [] once = All-nil (λ x. p x ≡ true → find p [] ≡ Some x)
find-only {X} p (x ∷ xs) once = All-cons (λ y. p y ≡ true → find p (x ∷ xs) ≡ Some y) x xs (λ here. here_found (p x) here) (λ k d within there. later (p x) refl (get_or xs k d) there (find-only p xs (AllPairs-tail (NotBoth p) x xs once) k d within there) (AllPairs-head (NotBoth p) x xs once k d within)) where
  here_found : (b : Bool) → b ≡ true → cond b (Some x) (find p xs) ≡ Some x
  here_found true is = refl
  here_found false is = absurd (cc)

  later : (b : Bool) → p x ≡ b → (y : X) → p y ≡ true → find p xs ≡ Some y → NotBoth p x y → cond b (Some x) (find p xs) ≡ Some y
  later true is y there rest apart = absurd (apart is there)
  later false is y there rest apart = rest
