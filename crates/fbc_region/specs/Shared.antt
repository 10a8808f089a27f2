-- What all attachments share.
use Rattle.std.specs.Prelude.{ℕ, ◌+◌, ◌*◌, ◌≤◌, Bool, false, List, [], ◌∷◌, reverse, length, if◌then◌else◌, Option, Some, None}
use Rattle.fbc_levels.specs.LockState.{LockState}
use Rattle.fbc_legal.specs.Lives.{living}
use Rattle.fbc_world.specs.declared.events.Act.{Act}
use Rattle.fbc_world.specs.declared.events.Act.TheVariants.{Write}
use Rattle.fbc_world.specs.declared.events.Event.{Event}
use Rattle.fbc_world.specs.History.{History, Recording, recorded}
use Rattle.fbc_world.specs.Locks.{locks_of}

-- The device with the file, the size of its pages in bytes, and the journal.
pub record Shared (D : Type 0) : Type 0 where
  pub device : D
  pub size : ℕ
  pub journal : Recording

-- The requests in the lock table are those after what the journal records.
abbrev pub locks_in : Recording → LockState
locks_in journal = locks_of (recorded journal)

-- There is room for that many events, besides a place kept aside for the death of each living owner.
abbrev pub HasRoom : Recording → ℕ → Type 0
HasRoom journal events = events + length (living (recorded journal)) ≤ journal.spare

-- One step adds so many events at most: 64 local ones, its own, and a grant for each owner that may be alive.
abbrev pub events_of_step : ℕ
events_of_step = 73

-- So many steps are reserved.
abbrev pub HasReserved : Recording → ℕ → Type 0
HasReserved journal steps = HasRoom journal (steps * events_of_step)

-- Whether the act is a write that failed.
abbrev pub is_failed_write : Act → Bool
is_failed_write (Write page cause failed) = failed
is_failed_write _ = false

-- The first of a list of landings: where there is none, the write counts as not landed.
abbrev pub first_landing : List Bool → Bool
first_landing [] = false
first_landing (landed ∷ earlier) = landed

abbrev pub earlier_landings : List Bool → List Bool
earlier_landings [] = []
earlier_landings (landed ∷ earlier) = earlier

-- These events, the newest first, as moments, where their failed writes landed as this list says, the newest first as well.
abbrev pub with_landings : List Event → List Bool → History
with_landings [] landings = []
with_landings (event ∷ before) landings =
    if is_failed_write event.act then record { event = event; landed = first_landing landings } ∷ with_landings before (earlier_landings landings)
    else record { event = event; landed = false } ∷ with_landings before landings

-- The history of a journal whose last failed writes landed as a device's last landings say.
abbrev pub history_of : Recording → List Bool → History
history_of journal landings = with_landings (reverse journal.events) (reverse landings)

-- The landings that a device tells: one that does not tell its bytes tells none.
abbrev pub landings_told : Option (List ℕ) → List Bool → List Bool
landings_told None landings = []
landings_told (Some bytes) landings = landings
