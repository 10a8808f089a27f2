-- Owners of transactions that go on, and commits of all owners but one.
use Rattle.std.proofs.Common.{◌≡◌, ◌==◌, ◌||◌, ◌⊎◌, inl, inr, ℕ, Bool, true, false, List, [], ◌∷◌, refl, ap, arith, if◌then◌else◌}
use Rattle.std.specs.Prelude.{All, Contains}
use Rattle.std.proofs.lemmas.List.Elements.{All-contains_itself, All-weaker}
use Rattle.fbc_kinds.specs.declared.snapshots.Transaction.{Transaction}
use Rattle.fbc_kinds.proofs.Tests.{same_from_test, test_of_different, test_of_same}
use Rattle.fbc_runs.specs.Ended.{is_owner_of}
use Rattle.fbc_runs.proofs.Numbers.{first_in, first_or_later, later_in}

-- What each element has, all have.
pub all_of : {X : Type 0} (P : X → Type 0) (xs : List X) → ((x : X) → Contains xs x → P x) → All P xs
all_of P xs each = All-weaker (Contains xs) P each xs (All-contains_itself xs)

-- A living transaction of an owner.
pub record HasLiving (living : List Transaction) (who : ℕ) : Type 0 where
  pub t : Transaction
  pub lives : Contains living t
  pub own : t.owner ≡ who

pub has_living : (living : List Transaction) (who : ℕ) → is_owner_of living who ≡ true → HasLiving living who
has_living [] who is = absurd cc
has_living (t ∷ living) who is = go (t.owner == who) refl is (has_living living who) where
  go : (b : Bool) → (t.owner == who) ≡ b → b || is_owner_of living who ≡ true → (is_owner_of living who ≡ true → HasLiving living who) → HasLiving (t ∷ living) who
  go true same found later = record { t = t; lives = first_in t living; own = same_from_test t.owner who same }
  go false other found later = let rest = later found in record { t = rest.t; lives = later_in t living rest.t rest.lives; own = rest.own }

-- Whoever has none is no owner of them.
pub none_living : (living : List Transaction) (who : ℕ) → ((t : Transaction) → Contains living t → ¬ (t.owner ≡ who)) → is_owner_of living who ≡ false
none_living [] who none = refl
none_living (t ∷ living) who none =
    rw (test_of_different t.owner who (none t (first_in t living)), none_living living who (λ u lives. none u (later_in t living u lives))) refl

pub lives_of : (living : List Transaction) (t : Transaction) → Contains living t → is_owner_of living t.owner ≡ true
lives_of [] t lives = absurd (omega (arith, lives.1))
lives_of (first ∷ living) t lives = go (first_or_later first living t lives) (lives_of living t) where
  go : (first ≡ t) ⊎ Contains living t → (Contains living t → is_owner_of living t.owner ≡ true) → is_owner_of (first ∷ living) t.owner ≡ true
  go (inl same) later = rw (test_of_same first.owner t.owner (ap (λ (u : Transaction). u.owner) same)) refl
  go (inr at) later = any_later (first.owner == t.owner) (later at) where
    any_later : (b : Bool) → is_owner_of living t.owner ≡ true → b || is_owner_of living t.owner ≡ true
    any_later true is = refl
    any_later false is = is

-- An owner's value among those of all.
pub own_value : (own : Bool) (others : ℕ → Bool) (owner other : ℕ) → other ≡ owner → (if other == owner then own else others other) ≡ own
own_value own others owner other same = rw (test_of_same other owner same) refl

pub other_value : (own : Bool) (others : ℕ → Bool) (owner other : ℕ) → ¬ (other ≡ owner) → (if other == owner then own else others other) ≡ others other
other_value own others owner other apart = rw (test_of_different other owner apart) refl

-- An owner's own value is as good as any that it has.
pub same_value : (own : Bool) (others : ℕ → Bool) (owner : ℕ) → others owner ≡ own → (other : ℕ) → others other ≡ (if other == owner then own else others other)
same_value own others owner is other = go (other == owner) refl where
  go : (b : Bool) → (other == owner) ≡ b → others other ≡ (if b then own else others other)
  go true same = rw (same_from_test other owner same) is
  go false apart = refl
