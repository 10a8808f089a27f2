-- What the pages of a file mean, and when two machines mean the same.
use Rattle.std.specs.Prelude.{◌≡◌, ◌-◌, ◌==◌, ◌++◌, ℕ, zero, suc, true, List, [], ◌∷◌, Option, Some, None, map, find, unwrap_or, if◌then◌else◌}
use Rattle.fbc_kinds.specs.View.{View, next_of, is_committed_state}
use Rattle.fbc_kinds.specs.Chain.{Version, chain, state_of, see}
use Rattle.fbc_kinds.specs.declared.snapshots.Standing.TheVariants as standing
use Rattle.fbc_kinds.specs.declared.snapshots.Transaction.{Transaction}
use Rattle.fbc_kinds.specs.Machine.{Machine, Made, committed_numbers, open_transaction, is_held, is_held_by_open, standing_versions, newest, seen_by}

-- The transaction of a number whose owner is gone: it is committed where it is marked so, else it is rolled back.
abbrev pub settled : View → ℕ → Transaction
settled view number = record {
  number = number;
  owner = 0;
  standing = if is_committed_state (state_of view number) then standing.Committed else standing.RolledBack;
  snapshot = [];
}

-- The transaction of a number: the open one that has it, or a settled one.
abbrev pub transaction_of : View → List Transaction → ℕ → Transaction
transaction_of view living number = unwrap_or (find (λ (t : Transaction). t.number == number) living) (settled view number)

-- The transactions of the first so many numbers, which count from 1.
abbrev pub transactions_up_to : View → List Transaction → ℕ → List Transaction
transactions_up_to view living zero = []
transactions_up_to view living (suc count) = transactions_up_to view living count ++ transaction_of view living (suc count) ∷ []

-- A version of a chain, made by the transaction of its number: the place of a number is one less, since numbers
-- count from 1.
abbrev pub made_of : Version → Made
made_of version = record { maker = version.number - 1; value = version.value }

-- What a view means while these transactions are open: the machine whose rows are its chains and whose
-- transactions have the numbers up to the header's next, since the last one that began may not have raised that
-- yet. The open ones are open whatever their marks, each other one is committed where it is marked so, and else
-- rolled back.
abbrev pub meaning_with : List Transaction → View → Machine
meaning_with living view = record {
  rows = λ relation row. map made_of (chain view relation row);
  transactions = transactions_up_to view living (next_of view);
}

-- The meaning of a file: every transaction that is not marked committed is rolled back.
abbrev pub meaning_of : View → Machine
meaning_of view = meaning_with [] view

-- Two open transactions of one owner are the same where they have one number and their snapshots hold the same
-- numbers.
pub record IsSameTransaction (t u : Transaction) : Type 0 where
  pub number : t.number ≡ u.number
  pub snapshot : (number : ℕ) → is_held t.snapshot number ≡ is_held u.snapshot number

abbrev pub IsSameOpen : Option Transaction → Option Transaction → Type 0
IsSameOpen None None = Unit {0}
IsSameOpen (Some t) (Some u) = IsSameTransaction t u
IsSameOpen _ _ = ⊥

-- A version is a deletion that each open snapshot holds.
pub record IsHeldDeletion (transactions : List Transaction) (version : Version) : Type 0 where
  pub deletion : version.value ≡ None
  pub held : is_held_by_open transactions version.number ≡ true

-- Two newest versions not rolled back are the same, except that a deletion which each open snapshot holds may be
-- missing.
abbrev pub IsSameNewest : Machine → Machine → Option Version → Option Version → Type 0
IsSameNewest a b None None = Unit {0}
IsSameNewest a b (Some version) None = IsHeldDeletion a.transactions version
IsSameNewest a b None (Some version) = IsHeldDeletion b.transactions version
IsSameNewest a b (Some version) (Some other) = version ≡ other

-- Two machines mean the same. Open transactions are paired by their owners and committed ones by their numbers.
-- Those that are rolled back are not compared.
pub record MeanTheSame (a b : Machine) : Type 0 where
  -- They have the same open transactions.
  pub same_open : (who : ℕ) → IsSameOpen (open_transaction a who) (open_transaction b who)
  -- They have the same committed numbers.
  pub committed : (number : ℕ) → is_held (committed_numbers a.transactions) number ≡ is_held (committed_numbers b.transactions) number
  -- Every open snapshot sees the same of each row.
  pub seen : (who relation row : ℕ) → seen_by a who relation row ≡ seen_by b who relation row
  -- The list of all committed numbers sees the same of each row.
  pub seen_by_committed : (relation row : ℕ)
      → see (standing_versions a relation row) (is_held (committed_numbers a.transactions))
      ≡ see (standing_versions b relation row) (is_held (committed_numbers b.transactions))
  -- The newest version not rolled back is the same in each row, except for a deletion which each open snapshot holds.
  pub same_newest : (relation row : ℕ)
      → IsSameNewest a b (newest (standing_versions a relation row)) (newest (standing_versions b relation row))
