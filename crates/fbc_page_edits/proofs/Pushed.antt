-- What stands in a list with one more element at its end.
use Rattle.std.proofs.Common.{◌≡◌, ◌⊎◌, ◌++◌, ℕ, zero, suc, List, [], ◌∷◌, Some, None, length, inl, inr, refl, ap, slice_get}

-- The place is that of the new element, where nothing stood.
pub record IsNewPlace {X : Type 0} (xs : List X) (x : X) (place : ℕ) : Type 0 where
  pub last : place ≡ length xs
  pub none : slice_get xs place ≡ None
  pub new : slice_get (xs ++ x ∷ []) place ≡ Some x

next_place : {X : Type 0} (xs : List X) (y x : X) (place : ℕ) → IsNewPlace xs x place → IsNewPlace (y ∷ xs) x (suc place)
next_place xs y x place is = record { last = ap suc is.last; none = is.none; new = is.new }

pub pushed : {X : Type 0} (xs : List X) (x : X) (place : ℕ) → (slice_get (xs ++ x ∷ []) place ≡ slice_get xs place) ⊎ IsNewPlace xs x place
pushed [] x zero = inr (record { last = refl; none = refl; new = refl })
pushed [] x (suc place) = inl refl
pushed (y ∷ xs) x zero = inl refl
pushed (y ∷ xs) x (suc place) = elim (pushed xs x place) [ inl same ↦ inl same | inr is ↦ inr (next_place xs y x place is) ]

pub pushed_last : {X : Type 0} (xs : List X) (x : X) → slice_get (xs ++ x ∷ []) (length xs) ≡ Some x
pushed_last [] x = refl
pushed_last (y ∷ xs) x = pushed_last xs x
