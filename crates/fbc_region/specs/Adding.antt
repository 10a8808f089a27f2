-- What is added to a journal.
use Rattle.std.specs.Prelude.{◌≡◌, ℕ, ◌+◌, Bool, true, false, not, List, ◌++◌, map}
use Rattle.fbc_world.specs.declared.events.Act.{Act}
use Rattle.fbc_world.specs.declared.events.Act.TheVariants.{Die, Enter, Leave, Least, Local, Look, Note, Poll, Read, Write}
use Rattle.fbc_world.specs.declared.events.Event.{Event}
use Rattle.fbc_world.specs.declared.events.LocalEvent.{LocalEvent}
use Rattle.fbc_world.specs.History.{Recording}
use Rattle.fbc_region.specs.Shared.{HasRoom}

-- An act of an owner as an event.
abbrev pub by : ℕ → Act → Event
by owner act = record { actor = owner; act = act }

-- The journal of the same file with these events more.
pub record Adds (before after : Recording) (events : List Event) : Type 0 where
  pub longer : after.events ≡ before.events ++ events
  pub shape : after.shape ≡ before.shape

-- At most so much room was used.
abbrev pub UsesRoom : Recording → Recording → ℕ → Type 0
UsesRoom before after used = (events : ℕ) → HasRoom before (used + events) → HasRoom after events

-- What an owner did in its own cache as events.
abbrev pub local_events : ℕ → List LocalEvent → List Event
local_events owner events = map (λ (event : LocalEvent). by owner (Local event)) events

-- Whether nobody comes, goes or dies by the act.
abbrev pub is_still : Act → Bool
is_still (Enter buffers name) = false
is_still Leave = false
is_still Die = false
is_still (Write page cause failed) = not failed
is_still _ = true

-- Whether it changes no request either.
abbrev pub is_quiet : Act → Bool
is_quiet Look = true
is_quiet (Read page fault) = true
is_quiet (Write page cause failed) = not failed
is_quiet (Poll above) = true
is_quiet Least = true
is_quiet (Note reply) = true
is_quiet (Local event) = true
is_quiet _ = false
