-- What every run of the machine keeps of its transactions and of its rows.
use Rattle.std.specs.Prelude.{◌≡◌, ◌<◌, ◌⊎◌, ◌++◌, ℕ, true, false, List, ◌∷◌, Contains, Option, Some, length, slice_get}
use Rattle.fbc_kinds.specs.declared.snapshots.Transaction.{Transaction}
use Rattle.fbc_kinds.specs.Chain.{Version}
use Rattle.fbc_kinds.specs.Machine.{Machine, Made, committed_numbers, is_held, is_open, is_rolled_back, newest, open_transaction, standing_versions}

-- The transaction at this place is not rolled back.
abbrev pub StandsAt : List Transaction → ℕ → Transaction → Type 0
StandsAt transactions place t = (slice_get transactions place ≡ Some t) × (is_rolled_back t.standing ≡ false)

-- It is open.
abbrev pub IsOpenAt : List Transaction → ℕ → Transaction → Type 0
IsOpenAt transactions place t = (slice_get transactions place ≡ Some t) × (is_open t.standing ≡ true)

-- Of the transactions that are not rolled back no two have one number.
abbrev pub NumbersDiffer : List Transaction → Type 0
NumbersDiffer transactions = (place other : ℕ) (t u : Transaction) → StandsAt transactions place t → StandsAt transactions other u → t.number ≡ u.number → place ≡ other

-- No owner has two open transactions.
abbrev pub OwnersDiffer : List Transaction → Type 0
OwnersDiffer transactions = (place other : ℕ) (t u : Transaction) → IsOpenAt transactions place t → IsOpenAt transactions other u → t.owner ≡ u.owner → place ≡ other

-- An open snapshot holds its own number, and besides it committed ones alone.
abbrev pub SnapshotsHoldCommits : List Transaction → Type 0
SnapshotsHoldCommits transactions = (place : ℕ) (t : Transaction) → IsOpenAt transactions place t
    → (is_held t.snapshot t.number ≡ true)
    × ((number : ℕ) → is_held t.snapshot number ≡ true → (number ≡ t.number) ⊎ (is_held (committed_numbers transactions) number ≡ true))

-- The maker of every version is a transaction of the machine.
abbrev pub MakersAreThere : Machine → Type 0
MakersAreThere machine = (relation row : ℕ) (v : Made) → Contains (machine.rows relation row) v → v.maker < length machine.transactions

-- In front of a version of an open transaction stand only versions of the same.
abbrev pub OpensStandInFront : Machine → Type 0
OpensStandInFront machine = (relation row : ℕ) (newer older : List Made) (v w : Made) (t u : Transaction)
    → machine.rows relation row ≡ newer ++ w ∷ older
    → IsOpenAt machine.transactions w.maker t
    → Contains newer v
    → StandsAt machine.transactions v.maker u
    → v.maker ≡ w.maker

-- All of this at once.
pub record IsOrderly (machine : Machine) : Type 0 where
  pub numbers : NumbersDiffer machine.transactions
  pub owners : OwnersDiffer machine.transactions
  pub snapshots : SnapshotsHoldCommits machine.transactions
  pub makers : MakersAreThere machine
  pub front : OpensStandInFront machine

-- The newest version of a row has this number.
pub record HasNewest (number : ℕ) (found : Option Version) : Type 0 where
  pub version : Version
  pub is : found ≡ Some version
  pub same : version.number ≡ number

-- In a row in which a version of the owner's open transaction stands, the newest one is of that transaction.
abbrev pub IsInFront : Machine → ℕ → Type 0
IsInFront machine who = (relation row : ℕ) (t : Transaction) (version : Version) → open_transaction machine who ≡ Some t
    → Contains (standing_versions machine relation row) version
    → version.number ≡ t.number
    → HasNewest t.number (newest (standing_versions machine relation row))
