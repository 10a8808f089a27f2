-- The requests for locks over a history, in the order of asking.
use Rattle.std.specs.Prelude.{ℕ, not, ◌==◌, if◌then◌else◌, [], ◌∷◌, Option, None, is_some, map, filter}
use Rattle.std.specs.Option.{option_and_then}
use Rattle.fbc_levels.specs.declared.levels.Level.{Level}
use Rattle.fbc_levels.specs.declared.levels.Level.TheVariants.{Free}
use Rattle.fbc_levels.specs.declared.resources.Request.{Request}
use Rattle.fbc_levels.specs.declared.resources.Resource.{Resource}
use Rattle.fbc_levels.specs.LockState.{LockState, is_of, request_of}
use Rattle.fbc_lock_table.specs.declared.answers.Asked.{Asked}
use Rattle.fbc_lock_table.specs.declared.answers.Asked.TheVariants.{Granted, Queued}
use Rattle.fbc_lock_table.specs.Answers.{answer_to_ask}
use Rattle.fbc_lock_table.specs.Effects.{after_ask, died, entered, with_granted, withdrawn, without}
use Rattle.fbc_owner_queues.specs.Circles.{circle_from}
use Rattle.fbc_world.specs.declared.events.Act.{Act}
use Rattle.fbc_world.specs.declared.events.Act.TheVariants.{Ask, Die, Grant, Lower, Opened, Reap, Withdraw, Write}
use Rattle.fbc_world.specs.History.{History}

-- The requests, of which the owner's waiting one is withdrawn where it closes a circle of waits.
abbrev pub unless_circle : LockState → ℕ → LockState
unless_circle s owner = if is_some (circle_from s owner) then withdrawn s owner else s

-- The requests after an ask, by what it comes to. Where nobody is in the way it waits for its grant, which is the next
-- event; where it is refused nothing is entered.
abbrev pub asked : LockState → ℕ → Resource → Level → ℕ → Asked → LockState
asked s owner resource level word Granted = after_ask s owner resource level word Queued
asked s owner resource level word Queued = unless_circle (after_ask s owner resource level word Queued) owner
asked s owner resource level word _ = s

-- This owner's request for this resource is granted the level and waits no more; others stay.
abbrev pub with_grant : ℕ → Resource → Level → Request → Request
with_grant owner resource level r =
    record r { granted = if is_of owner resource r then level else r.granted; waiting = if is_of owner resource r then None else r.waiting }

-- The requests after a grant. One that nobody asked for is entered.
abbrev pub granted_to : LockState → ℕ → Resource → Level → LockState
granted_to s owner resource level = record s { requests = map (with_grant owner resource level) (entered s.requests owner resource 0) }

-- The requests after a lowering: none takes the request away.
abbrev pub lowered_to : LockState → ℕ → Resource → Level → LockState
lowered_to s owner resource Free = without s owner resource
lowered_to s owner resource level = record s { requests = map (with_granted owner resource level) (entered s.requests owner resource 0) }

-- The requests without those of this owner.
abbrev pub without_owner : LockState → ℕ → LockState
without_owner s owner = record s { requests = filter (λ (r : Request). not (r.owner == owner)) s.requests }

-- The requests after an act of this owner. A failed write is its death.
abbrev pub locks_step : LockState → ℕ → Act → LockState
locks_step s owner (Opened locks) = record { capacity = locks; requests = [] }
locks_step s owner (Ask resource level wait word) = asked s owner resource level word (answer_to_ask s owner resource level wait)
locks_step s owner (Grant resource level) = granted_to s owner resource level
locks_step s owner Withdraw = withdrawn s owner
locks_step s owner (Lower resource level) = lowered_to s owner resource level
locks_step s owner (Reap dead by) = without_owner s dead
locks_step s owner (Write page cause failed) = if failed then died s owner else s
locks_step s owner Die = died s owner
locks_step s owner _ = s

-- The requests after a history. Before the file is opened there is room for none.
abbrev pub locks_of : History → LockState
locks_of [] = record { capacity = 0; requests = [] }
locks_of (moment ∷ before) = locks_step (locks_of before) moment.event.actor moment.event.act

-- The level that an owner's request for a resource waits for.
abbrev pub waiting_of : LockState → ℕ → Resource → Option Level
waiting_of s owner resource = option_and_then (λ (r : Request). r.waiting) (request_of s owner resource)

-- The level that the owner waits for on the resource after a history.
abbrev pub waiting : History → ℕ → Resource → Option Level
waiting history owner resource = waiting_of (locks_of history) owner resource
