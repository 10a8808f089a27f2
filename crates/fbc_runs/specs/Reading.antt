-- When one machine reads as another, whatever comes after.
use Rattle.std.specs.Prelude.{◌≡◌, ℕ, true, List, Option, Some, None}
use Rattle.fbc_kinds.specs.declared.snapshots.Transaction.{Transaction}
use Rattle.fbc_kinds.specs.Chain.{Version}
use Rattle.fbc_kinds.specs.Machine.{Machine, committed_numbers, is_held, is_held_by_open, newest, open_transaction, standing_versions}
use Rattle.fbc_kinds.specs.Meaning.{MeanTheSame}

-- A deletion that is committed, and that each open snapshot holds.
pub record IsSettledDeletion (transactions : List Transaction) (version : Version) : Type 0 where
  pub deletion : version.value ≡ None
  pub committed : is_held (committed_numbers transactions) version.number ≡ true
  pub held : is_held_by_open transactions version.number ≡ true

-- The first newest version is the other one, or lacks where that is a settled deletion.
abbrev pub IsNewestOrLacks : List Transaction → Option Version → Option Version → Type 0
IsNewestOrLacks transactions (Some version) other = other ≡ Some version
IsNewestOrLacks transactions None None = Unit {0}
IsNewestOrLacks transactions None (Some version) = IsSettledDeletion transactions version

-- The first machine reads as the other: both mean the same, and of the newest versions of rows the first lacks settled
-- deletions alone.
pub record ReadsAs (a b : Machine) : Type 0 where
  pub means : MeanTheSame a b
  pub lacks : (relation row : ℕ) → IsNewestOrLacks b.transactions (newest (standing_versions a relation row)) (newest (standing_versions b relation row))

-- A machine gains the owner's open transaction, and is as before in all else.
pub record Gains (before after : Machine) (who : ℕ) (t : Transaction) : Type 0 where
  pub none : open_transaction before who ≡ None
  pub found : open_transaction after who ≡ Some t
  pub others : (other : ℕ) → ¬ (other ≡ who) → open_transaction after other ≡ open_transaction before other
  pub committed : (number : ℕ) → is_held (committed_numbers after.transactions) number ≡ is_held (committed_numbers before.transactions) number
  pub held : (number : ℕ) → is_held_by_open before.transactions number ≡ true → is_held t.snapshot number ≡ true → is_held_by_open after.transactions number ≡ true
  pub versions : (relation row : ℕ) → standing_versions after relation row ≡ standing_versions before relation row
