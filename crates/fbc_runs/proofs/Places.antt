-- What stands at the places of lists.
use Rattle.std.proofs.Common.{◌≡◌, ◌∙◌, ◌<◌, ◌+◌, ◌⊎◌, inl, inr, ℕ, zero, suc, Bool, true, false, List, [], ◌∷◌, ◌++◌, length, get_or, map, refl, sym, ap, subst, arith}
use Rattle.std.specs.Prelude.{Some, None, Contains, slice_get, find, if◌then◌else◌}
use Rattle.std.specs.List.{position_from}
use Rattle.std.proofs.lemmas.Option.{same_Some, slice_get-map}
use Rattle.std.specs.Option.{option_map}

-- An item of a list is one of the longer list.
pub in_tail : {X : Type 0} (x : X) (xs : List X) (t : X) → Contains xs t → Contains (x ∷ xs) t
in_tail x xs t at = (suc at.0, omega (arith, at.1), at.2)

pub at_head : {X : Type 0} (x : X) (xs : List X) → Contains (x ∷ xs) x
at_head x xs = (0, omega arith, refl)

-- An item of a list with one in front is that one, or one of the others.
pub head_or_tail : {X : Type 0} (x : X) (xs : List X) (t : X) → Contains (x ∷ xs) t → (x ≡ t) ⊎ Contains xs t
head_or_tail x xs t at = go at.0 at.1 at.2
  where
    go : (k : ℕ) → k < length (x ∷ xs) → get_or (x ∷ xs) k t ≡ t → (x ≡ t) ⊎ Contains xs t
    go zero lt same = inl same
    go (suc k) lt same = inr (k, omega (arith, lt), same)

-- Places of a list with an item more at its end.
pub before_end : {X : Type 0} (xs : List X) (x t : X) (k : ℕ) → slice_get xs k ≡ Some t → slice_get (xs ++ x ∷ []) k ≡ Some t
before_end [] x t k at = cc
before_end (y ∷ ys) x t zero at = at
before_end (y ∷ ys) x t (suc k) at = before_end ys x t k at

-- An item of such a list is one of the others, or the last.
pub data PlaceOf {X : Type 0} (xs : List X) (x t : X) (k : ℕ) : Type 0 where
  earlier : slice_get xs k ≡ Some t → PlaceOf xs x t k
  last : k ≡ length xs → x ≡ t → PlaceOf xs x t k

pub place_of : {X : Type 0} (xs : List X) (x t : X) (k : ℕ) → slice_get (xs ++ x ∷ []) k ≡ Some t → PlaceOf xs x t k
place_of [] x t zero at = last refl (same_Some x t at)
place_of [] x t (suc k) at = cc
place_of (y ∷ ys) x t zero at = earlier at
place_of {X} (y ∷ ys) x t (suc k) at = go (place_of ys x t k at)
  where
    go : PlaceOf ys x t k → PlaceOf (y ∷ ys) x t (suc k)
    go (earlier before) = earlier before
    go (last is same) = last (ap suc is) same

-- What stands at a place of a mapped list.
pub record MappedAt {X Y : Type 0} (f : X → Y) (xs : List X) (k : ℕ) (y : Y) : Type 0 where
  pub item : X
  pub at : slice_get xs k ≡ Some item
  pub same : f item ≡ y

pub mapped_at : {X Y : Type 0} (f : X → Y) (xs : List X) (k : ℕ) (y : Y) → slice_get (map f xs) k ≡ Some y → MappedAt f xs k y
mapped_at f [] k y at = cc
mapped_at f (x ∷ xs) zero y at = record { item = x; at = refl; same = same_Some (f x) y at }
mapped_at f (x ∷ xs) (suc k) y at = let rest = mapped_at f xs k y at in record { item = rest.item; at = rest.at; same = rest.same }

pub map_at : {X Y : Type 0} (f : X → Y) (xs : List X) (k : ℕ) (x : X) → slice_get xs k ≡ Some x → slice_get (map f xs) k ≡ Some (f x)
map_at f xs k x at = slice_get-map f xs k ∙ ap (option_map f) at

-- Where a search ends.
pub record FoundAt {X : Type 0} (test : X → Bool) (xs : List X) (place : ℕ) (t : X) : Type 0 where
  pub at : slice_get xs place ≡ Some t
  pub passes : test t ≡ true

pub found_at : {X : Type 0} (test : X → Bool) (xs : List X) (t : X) → find test xs ≡ Some t → (place : ℕ) × FoundAt test xs place t
found_at test [] t is = cc
found_at {X} test (x ∷ xs) t is = go (test x) refl is (found_at test xs t)
  where
    go : (b : Bool) → test x ≡ b → (if b then Some x else find test xs) ≡ Some t → (find test xs ≡ Some t → (place : ℕ) × FoundAt test xs place t) → (place : ℕ) × FoundAt test (x ∷ xs) place t
    go true passes is later = (0, record { at = is; passes = ap test (sym (same_Some x t is)) ∙ passes })
    go false fails is later = let rest = later is in (suc rest.0, record { at = rest.1.at; passes = rest.1.passes })

placed_from : {X : Type 0} (test : X → Bool) (xs : List X) (from place : ℕ) → position_from test from xs ≡ Some place → (k : ℕ) × ((t : X) × FoundAt test xs k t) × (place ≡ from + k)
placed_from test [] from place is = cc
placed_from {X} test (x ∷ xs) from place is = go (test x) refl is (placed_from test xs (from + 1) place)
  where
    go : (b : Bool) → test x ≡ b → (if b then Some from else position_from test (from + 1) xs) ≡ Some place
        → (position_from test (from + 1) xs ≡ Some place → (k : ℕ) × ((t : X) × FoundAt test xs k t) × (place ≡ from + 1 + k))
        → (k : ℕ) × ((t : X) × FoundAt test (x ∷ xs) k t) × (place ≡ from + k)
    go true passes is later = (0, (x, record { at = refl; passes = passes }), omega (arith, same_Some from place is))
    go false fails is later = let rest = later is in (suc rest.0, (rest.1.0, record { at = rest.1.1.at; passes = rest.1.1.passes }), omega (arith, rest.2))

pub placed_at : {X : Type 0} (test : X → Bool) (xs : List X) (place : ℕ) → position_from test 0 xs ≡ Some place → (t : X) × FoundAt test xs place t
placed_at {X} test xs place is = go (placed_from test xs 0 place is)
  where
    go : (k : ℕ) × ((t : X) × FoundAt test xs k t) × (place ≡ 0 + k) → (t : X) × FoundAt test xs place t
    go (k, found, same) = let one : k ≡ place = omega (arith, same) in subst (λ n. (t : X) × FoundAt test xs n t) one found

-- Where nothing is found, nothing passes.
pub none_passes : {X : Type 0} (test : X → Bool) (xs : List X) (k : ℕ) (t : X) → find test xs ≡ None → slice_get xs k ≡ Some t → test t ≡ false
none_passes test [] k t is at = cc
none_passes {X} test (x ∷ xs) k t is at = go (test x) refl is k at (none_passes test xs)
  where
    go : (b : Bool) → test x ≡ b → (if b then Some x else find test xs) ≡ None → (k : ℕ) → slice_get (x ∷ xs) k ≡ Some t → ((k : ℕ) (t : X) → find test xs ≡ None → slice_get xs k ≡ Some t → test t ≡ false) → test t ≡ false
    go true passes is k at later = cc
    go false fails is zero at later = ap test (sym (same_Some x t at)) ∙ fails
    go false fails is (suc k) at later = later k t is at
