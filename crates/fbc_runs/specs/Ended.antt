-- A machine with some of its open transactions at their ends.
use Rattle.std.specs.Prelude.{ℕ, Bool, true, false, ◌==◌, ◌&&◌, not, List, map, if◌then◌else◌}
use Rattle.std.specs.List.{list_any}
use Rattle.fbc_kinds.specs.declared.snapshots.Standing.{Standing}
use Rattle.fbc_kinds.specs.declared.snapshots.Standing.TheVariants as standing
use Rattle.fbc_kinds.specs.declared.snapshots.Transaction.{Transaction}
use Rattle.fbc_kinds.specs.Machine.{Machine, is_open}

-- One of these transactions is the owner's.
abbrev pub is_owner_of : List Transaction → ℕ → Bool
is_owner_of living owner = list_any (λ (t : Transaction). t.owner == owner) living

-- How a transaction ends: committed where its owner's commit is there, and rolled back otherwise.
abbrev pub end_by : Bool → Standing
end_by true = standing.Committed
end_by false = standing.RolledBack

-- The owners of the living transactions go on. Every other open transaction ends.
abbrev pub ended_by : List Transaction → (ℕ → Bool) → Transaction → Transaction
ended_by living commits t = if is_open t.standing && not (is_owner_of living t.owner) then record t { standing = end_by (commits t.owner) } else t

-- The machine with every open transaction at its end, but those of the owners of the living ones.
abbrev pub settled_by : List Transaction → (ℕ → Bool) → Machine → Machine
settled_by living commits machine = record machine { transactions = map (ended_by living commits) machine.transactions }
