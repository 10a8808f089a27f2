-- A loop that looks for the first element that passes.
use Rattle.std.proofs.Common.{◌≡◌, ℕ, zero, suc, ◌+◌, Bool, true, false, cond, List, [], ◌∷◌, take, Some, None, slice_get, add-one, refl}
use Rattle.std.specs.List.{find}

-- It is the one that is read, where those before do not pass.
pub find_here : {X : Type 0} (p : X → Bool) (xs : List X) (k : ℕ) (x : X) → find p (take k xs) ≡ None → slice_get xs k ≡ Some x → p x ≡ true → find p xs ≡ Some x
find_here p [] k x none at is = absurd (cc)
find_here p (y ∷ ys) zero x none at is =
    let same : y ≡ x = cc in
    rw (same, is) refl
find_here p (y ∷ ys) (suc k) x none at is = step (p y) none (λ none'. find_here p ys k x none' at is) where
  step : (b : Bool) → cond b (Some y) (find p (take k ys)) ≡ None → (find p (take k ys) ≡ None → find p ys ≡ Some x) → cond b (Some y) (find p ys) ≡ Some x
  step true none' rest = absurd (cc)
  step false none' rest = rest none'

-- None up to the one that is read, where that does not pass.
find_next : {X : Type 0} (p : X → Bool) (xs : List X) (k : ℕ) (x : X) → find p (take k xs) ≡ None → slice_get xs k ≡ Some x → p x ≡ false → find p (take (suc k) xs) ≡ None
find_next p [] k x none at is = absurd (cc)
find_next p (y ∷ ys) zero x none at is =
    let same : y ≡ x = cc in
    rw (same, is) refl
find_next p (y ∷ ys) (suc k) x none at is = step (p y) none (λ none'. find_next p ys k x none' at is) where
  step : (b : Bool) → cond b (Some y) (find p (take k ys)) ≡ None → (find p (take k ys) ≡ None → find p (take (suc k) ys) ≡ None) → cond b (Some y) (find p (take (suc k) ys)) ≡ None
  step true none' rest = absurd (cc)
  step false none' rest = rest none'

pub find_more : {X : Type 0} (p : X → Bool) (xs : List X) (k : ℕ) (x : X) → find p (take k xs) ≡ None → slice_get xs k ≡ Some x → p x ≡ false → find p (take (k + 1) xs) ≡ None
find_more p xs k x none at is = rw add-one (find_next p xs k x none at is)
