-- What ending a transaction leaves of it, by its owner and its standing.
use Rattle.std.proofs.Common.{◌≡◌, ℕ, Bool, true, false, not, ◌==◌, ◌&&◌, List, [], ◌∷◌, map, refl, ap, if◌then◌else◌}
use Rattle.fbc_kinds.specs.declared.snapshots.Standing.{Standing}
use Rattle.fbc_kinds.specs.declared.snapshots.Transaction.{Transaction}
use Rattle.fbc_kinds.specs.Machine.{Machine, ended, is_open, is_open_of}
use Rattle.fbc_kinds.proofs.Tests.{differ_from_test, same_from_test, test_of_different, test_of_same}
use Rattle.fbc_runs.specs.Ended.{end_by, ended_by, is_owner_of}

pub map_same : {X Y : Type 0} (f g : X → Y) (xs : List X) → ((x : X) → f x ≡ g x) → map f xs ≡ map g xs
map_same f g [] same = refl
map_same f g (x ∷ xs) same = rw (same x, map_same f g xs same) refl

pub map_twice : {X Y Z : Type 0} (f : Y → Z) (g : X → Y) (h : X → Z) (xs : List X) → ((x : X) → f (g x) ≡ h x) → map f (map g xs) ≡ map h xs
map_twice f g h [] same = refl
map_twice f g h (x ∷ xs) same = rw (same x, map_twice f g h xs same) refl

-- What is at its end is not open.
pub closed_end : (b : Bool) → is_open (end_by b) ≡ false
closed_end true = refl
closed_end false = refl

module _ (living : List Transaction) (commits : ℕ → Bool) (t : Transaction) where
  pub closed_stays : is_open t.standing ≡ false → ended_by living commits t ≡ t
  closed_stays is = rw is refl

  pub living_stays : is_owner_of living t.owner ≡ true → ended_by living commits t ≡ t
  living_stays is = go (is_open t.standing)
    where
      go : (b : Bool) → (if b && not (is_owner_of living t.owner) then record t { standing = end_by (commits t.owner) } else t) ≡ t
      go true = rw is refl
      go false = refl

  pub other_ends : is_open t.standing ≡ true → is_owner_of living t.owner ≡ false → ended_by living commits t ≡ record t { standing = end_by (commits t.owner) }
  other_ends opened is = rw (opened, is) refl

pub own_ends : (who : ℕ) (now : Standing) (t : Transaction) → is_open_of who t ≡ true → ended who now t ≡ record t { standing = now }
own_ends who now t is = ap (λ b. if b then record t { standing = now } else t) is

pub others_stay : (who : ℕ) (now : Standing) (t : Transaction) → is_open_of who t ≡ false → ended who now t ≡ t
others_stay who now t is = ap (λ b. if b then record t { standing = now } else t) is

-- How a transaction stands to an owner that may be living.
pub data Stands (living : List Transaction) (who : ℕ) (t : Transaction) : Type 0 where
  closed : is_open t.standing ≡ false → Stands living who t
  own : is_open t.standing ≡ true → t.owner ≡ who → Stands living who t
  living_one : is_open t.standing ≡ true → ¬ (t.owner ≡ who) → is_owner_of living t.owner ≡ true → Stands living who t
  other_one : is_open t.standing ≡ true → ¬ (t.owner ≡ who) → is_owner_of living t.owner ≡ false → Stands living who t

pub stands : (living : List Transaction) (who : ℕ) (t : Transaction) → Stands living who t
stands living who t = go (is_open t.standing) refl (t.owner == who) refl (is_owner_of living t.owner) refl
  where
    go : (o : Bool) → is_open t.standing ≡ o → (b : Bool) → (t.owner == who) ≡ b → (l : Bool) → is_owner_of living t.owner ≡ l → Stands living who t
    go false is b test l lives = closed is
    go true is true test l lives = own is (same_from_test t.owner who test)
    go true is false test true lives = living_one is (differ_from_test t.owner who test) lives
    go true is false test false lives = other_one is (differ_from_test t.owner who test) lives

pub is_own : (who : ℕ) (t : Transaction) → is_open t.standing ≡ true → t.owner ≡ who → is_open_of who t ≡ true
is_own who t opened owner = rw (opened, test_of_same t.owner who owner) refl

pub is_not_own : (who : ℕ) (t : Transaction) → is_open t.standing ≡ true → ¬ (t.owner ≡ who) → is_open_of who t ≡ false
is_not_own who t opened differ = rw (opened, test_of_different t.owner who differ) refl

pub closed_is_not_own : (who : ℕ) (t : Transaction) → is_open t.standing ≡ false → is_open_of who t ≡ false
closed_is_not_own who t is = rw is refl

-- Machines with equal transactions.
pub with_same : (m : Machine) (ts us : List Transaction) → ts ≡ us → (let first : Machine = record m { transactions = ts } in let second : Machine = record m { transactions = us } in first ≡ second)
with_same m ts us same = ap (λ ws. let other : Machine = record m { transactions = ws } in other) same
