-- What is true of every element of a list.
use Rattle.std.proofs.Common.{◌≡◌, Bool, true, false, cond, List, [], ◌∷◌, ◌++◌, map, refl}
use Rattle.std.specs.List.{AllByRecursion, filter}

-- Of some of the elements.
pub all-filter : {X : Type 0} (P Q : X → Type 0) (p : X → Bool) → ((x : X) → p x ≡ true → P x → Q x) → (xs : List X) → AllByRecursion P xs → AllByRecursion Q (filter p xs)
all-filter P Q p gives [] all = tt
all-filter P Q p gives (x ∷ xs) all = go (p x) refl (all-filter P Q p gives xs all.1) where
  go : (t : Bool) → p x ≡ t → AllByRecursion Q (filter p xs) → AllByRecursion Q (cond t (x ∷ filter p xs) (filter p xs))
  go true passes rest = (gives x passes all.0, rest)
  go false fails rest = rest

-- Of what a change makes of them.
pub all-map : {X : Type 0} (P Q : X → Type 0) (f : X → X) → ((x : X) → P x → Q (f x)) → (xs : List X) → AllByRecursion P xs → AllByRecursion Q (map f xs)
all-map P Q f gives [] all = tt
all-map P Q f gives (x ∷ xs) all = (gives x all.0, all-map P Q f gives xs all.1)

-- What follows from it.
pub all-implied : {X : Type 0} (P Q : X → Type 0) → ((x : X) → P x → Q x) → (xs : List X) → AllByRecursion P xs → AllByRecursion Q xs
all-implied P Q gives [] all = tt
all-implied P Q gives (x ∷ xs) all = (gives x all.0, all-implied P Q gives xs all.1)

-- Two things at once.
pub all-both : {X : Type 0} (P Q : X → Type 0) (xs : List X) → AllByRecursion P xs → AllByRecursion Q xs → AllByRecursion (λ x. P x × Q x) xs
all-both P Q [] all also = tt
all-both P Q (x ∷ xs) all also = ((all.0, also.0), all-both P Q xs all.1 also.1)

-- Of two lists.
pub all-append : {X : Type 0} (P : X → Type 0) (xs ys : List X) → AllByRecursion P xs → AllByRecursion P ys → AllByRecursion P (xs ++ ys)
all-append P [] ys all also = also
all-append P (x ∷ xs) ys all also = (all.0, all-append P xs ys all.1 also)
