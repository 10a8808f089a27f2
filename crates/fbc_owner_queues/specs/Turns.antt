-- The order in which waiting requests of a resource are granted.
use Rattle.std.specs.Prelude.{◌≡◌, ℕ, zero, suc, if◌then◌else◌, IfSome}
use Rattle.std.specs.List.{All, fold}
use Rattle.fbc_levels.specs.declared.resources.Resource.{Resource}
use Rattle.fbc_levels.specs.declared.resources.Request.{Request}
use Rattle.fbc_levels.specs.Levels.{join}
use Rattle.fbc_levels.specs.LockState.{LockState}
use Rattle.fbc_lock_table.specs.Effects.{after_grant}
use Rattle.fbc_owner_queues.specs.Grants.{is_grantable, next_grant, with_grant}

-- One request is granted what it waits for, if it can be.
abbrev pub visited : Resource → LockState → Request → LockState
visited resource s r = if is_grantable s resource r then after_grant s r.owner r.resource else s

-- All requests are visited once, in the order of asking.
abbrev pub passed : Resource → LockState → LockState
passed resource s = fold (visited resource) s s.requests

-- The first that can be granted is granted, so many times.
abbrev pub granted_times : ℕ → Resource → LockState → LockState
granted_times zero resource s = s
granted_times (suc n) resource s = granted_times n resource (with_grant s (next_grant s resource))

-- Who waits, waits for a level that gives what is granted already.
abbrev pub WantsMore : Request → Type 0
WantsMore r = IfSome r.waiting (λ level. join r.granted level ≡ level)

abbrev pub AllWantMore : LockState → Type 0
AllWantMore s = All WantsMore s.requests
