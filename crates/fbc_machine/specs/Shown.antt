-- What the machine's fields stand for.
use Rattle.std.specs.Prelude.{◌≡◌, ◌==◌, ◌&&◌, ◌++◌, ℕ, Bool, true, false, List, [], ◌∷◌, Option, Some, None, filter_map, is_some, is_none, slice_get, if◌then◌else◌}
use Rattle.std.specs.Option.{option_and_then, option_map, option_map_or}
use Rattle.fbc_kinds.specs.declared.snapshots.Transaction.{Transaction}
use Rattle.fbc_kinds.specs.declared.replies.Reply.{Reply}
use Rattle.fbc_kinds.specs.declared.replies.Reply.TheVariants as answers
use Rattle.fbc_kinds.specs.Chain.{Version as Numbered}
use Rattle.fbc_kinds.specs.Machine as definition
use Rattle.fbc_machine.specs.declared.machine.Machine.{Machine}
use Rattle.fbc_machine.specs.declared.machine.Newest.{Newest}
use Rattle.fbc_machine.specs.declared.machine.Version.{Version}

-- A version is one of the row.
abbrev pub is_at : ℕ → ℕ → Version → Bool
is_at relation row version = (version.relation == relation) && (version.row == row)

-- The version, where it is one of the row.
abbrev pub made_at : ℕ → ℕ → Version → Option definition.Made
made_at relation row version = if is_at relation row version then Some (record { maker = version.maker; value = version.value }) else None

-- The rows and the transactions of a machine.
abbrev pub shown : Machine → definition.Machine
shown machine = record {
  rows = λ relation row. filter_map (made_at relation row) machine.versions.items;
  transactions = machine.transactions.items;
}

-- The number of the transaction at a place, unless it is rolled back.
abbrev pub number_of : Transaction → Option ℕ
number_of t = if definition.is_rolled_back t.standing then None else Some t.number

abbrev pub number_at : List Transaction → ℕ → Option ℕ
number_at transactions maker = option_and_then number_of (slice_get transactions maker)

-- The snapshot holds the number of the transaction at a place, which is not rolled back.
abbrev pub is_held_at : List Transaction → List ℕ → ℕ → Bool
is_held_at transactions snapshot maker = option_map_or (definition.is_held snapshot) (number_at transactions maker) false

-- A version of the row that the snapshot holds, and one that is not rolled back.
abbrev pub is_held_there : List Transaction → ℕ → ℕ → List ℕ → Version → Bool
is_held_there transactions relation row snapshot version = is_at relation row version && is_held_at transactions snapshot version.maker

abbrev pub is_standing_there : List Transaction → ℕ → ℕ → Version → Bool
is_standing_there transactions relation row version = is_at relation row version && is_some (number_at transactions version.maker)

-- What the newest version of a row says.
abbrev pub newest_in : Numbered → Newest
newest_in version = record { number = version.number; is_deletion = is_none version.value }

abbrev pub newest_of : List Numbered → Option Newest
newest_of versions = option_map newest_in (definition.newest versions)

-- What a version says whose transaction is not rolled back.
abbrev pub newest_from : List Transaction → Version → Option Newest
newest_from transactions version = option_map (λ (number : ℕ). record { number = number; is_deletion = is_none version.value }) (number_at transactions version.maker)

-- The machine with a transaction more.
abbrev pub with_transaction : definition.Machine → Transaction → definition.Machine
with_transaction machine t = record { rows = machine.rows; transactions = machine.transactions ++ t ∷ [] }

-- A change is refused with this reply, or it is done.
pub record IsRefused (snapshot : List ℕ) (versions : List Numbered) (reply : Reply) : Type 0 where
  pub answer : reply ≡ definition.change_reply snapshot versions
  pub undone : definition.is_done snapshot versions ≡ false

pub record IsDone (snapshot : List ℕ) (versions : List Numbered) : Type 0 where
  pub answer : definition.change_reply snapshot versions ≡ answers.Ok
  pub changed : definition.is_done snapshot versions ≡ true
