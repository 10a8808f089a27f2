-- Where a search of a list ends: at the first item that passes.
use Rattle.std.proofs.Common.{◌≡◌, ◌∙◌, ◌<◌, ◌+◌, ℕ, zero, suc, Bool, true, false, List, [], ◌∷◌, length, get_or, refl, sym, ap, arith, find, if◌then◌else◌}
use Rattle.std.specs.Prelude.{Some, None, Contains, slice_get}
use Rattle.std.specs.List.{position_from}
use Rattle.std.proofs.lemmas.Option.{same_Some}

in_tail : {X : Type 0} (x : X) (xs : List X) (t : X) → Contains xs t → Contains (x ∷ xs) t
in_tail x xs t at = (suc at.0, omega (arith, at.1), at.2)

-- What is found is in the list, and passes.
pub found_in : {X : Type 0} (test : X → Bool) (xs : List X) (t : X) → find test xs ≡ Some t → Contains xs t × (test t ≡ true)
found_in test [] t is = cc
found_in {X} test (x ∷ xs) t is = go (test x) refl is (found_in test xs t)
  where
    go : (b : Bool) → test x ≡ b → (if b then Some x else find test xs) ≡ Some t → (find test xs ≡ Some t → Contains xs t × (test t ≡ true)) → Contains (x ∷ xs) t × (test t ≡ true)
    go true passes is later = let same = same_Some x t is in ((0, omega arith, same), ap test (sym same) ∙ passes)
    go false passes is later = let rest = later is in (in_tail x xs t rest.0, rest.1)

-- Where nothing is found, nothing passes.
pub none_passes : {X : Type 0} (test : X → Bool) (xs : List X) (t : X) → find test xs ≡ None → Contains xs t → test t ≡ false
none_passes test [] t is at = absurd (omega (arith, at.1))
none_passes {X} test (x ∷ xs) t is at = go (test x) refl is at.0 at.1 at.2 (none_passes test xs t)
  where
    go : (b : Bool) → test x ≡ b → (if b then Some x else find test xs) ≡ None → (k : ℕ) → k < suc (length xs) → get_or (x ∷ xs) k t ≡ t → (find test xs ≡ None → Contains xs t → test t ≡ false) → test t ≡ false
    go true passes is k lt same later = cc
    go false passes is zero lt same later = ap test (sym same) ∙ passes
    go false passes is (suc k) lt same later = later is (k, omega arith, same)

-- The first item that passes is found, at its place.
pub found_at : {X : Type 0} (test : X → Bool) (xs : List X) (place : ℕ) (t : X) → slice_get xs place ≡ Some t → test t ≡ true
    → ((k : ℕ) (w : X) → k < place → slice_get xs k ≡ Some w → test w ≡ false) → find test xs ≡ Some t
found_at test [] place t is passes none = cc
found_at test (x ∷ xs) zero t is passes none = rw (ap test (same_Some x t is) ∙ passes) is
found_at test (x ∷ xs) (suc place) t is passes none = rw (none 0 x (omega arith) refl) (found_at test xs place t is passes (λ k w lt at. none (suc k) w (omega arith) at))

pub place_of : {X : Type 0} (test : X → Bool) (xs : List X) (from place : ℕ) (t : X) → slice_get xs place ≡ Some t → test t ≡ true
    → ((k : ℕ) (w : X) → k < place → slice_get xs k ≡ Some w → test w ≡ false) → position_from test from xs ≡ Some (from + place)
place_of test [] from place t is passes none = cc
place_of test (x ∷ xs) from zero t is passes none = let start : from ≡ from + 0 = omega arith in rw (ap test (same_Some x t is) ∙ passes) (ap Some start)
place_of test (x ∷ xs) from (suc place) t is passes none =
    let next : from + 1 + place ≡ from + suc place = omega arith in
    rw (none 0 x (omega arith) refl) (place_of test xs (from + 1) place t is passes (λ k w lt at. none (suc k) w (omega arith) at) ∙ ap Some next)
