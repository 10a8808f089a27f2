-- Which waiting request is granted next, and which request of a dead owner goes next.
use Rattle.std.specs.Prelude.{ℕ, Bool, false, ◌&&◌, ◌==◌, Option, Some, None, is_none}
use Rattle.std.specs.List.{find}
use Rattle.std.specs.Option.{option_map_or}
use Rattle.fbc_levels.specs.declared.resources.Resource.{Resource}
use Rattle.fbc_levels.specs.declared.resources.Request.{Request}
use Rattle.fbc_levels.specs.Resources.{is_same_resource}
use Rattle.fbc_levels.specs.LockState.{LockState, holder_of}
use Rattle.fbc_lock_table.specs.Effects.{after_grant, without}

-- Whether it waits, and nobody is in the way of what it waits for.
abbrev pub is_clear : LockState → Request → Bool
is_clear s r = option_map_or (λ level. is_none (holder_of s r.owner r.resource level)) r.waiting false

-- Whether it is a living owner's request for this resource that waits and can be granted.
abbrev pub is_grantable : LockState → Resource → Request → Bool
is_grantable s resource r = is_same_resource r.resource resource && r.alive && is_clear s r

-- The first of these in the order of asking.
abbrev pub next_grant : LockState → Resource → Option Request
next_grant s resource = find (is_grantable s resource) s.requests

-- What is left after this request was granted.
abbrev pub with_grant : LockState → Option Request → LockState
with_grant s None = s
with_grant s (Some r) = after_grant s r.owner r.resource

-- Whether it is a request of this owner.
abbrev pub is_by : ℕ → Request → Bool
is_by owner r = r.owner == owner

-- The first request of the owner in the order of asking.
abbrev pub first_of : LockState → ℕ → Option Request
first_of s owner = find (is_by owner) s.requests

-- What is left without this request.
abbrev pub without_request : LockState → Option Request → LockState
without_request s None = s
without_request s (Some r) = without s r.owner r.resource
