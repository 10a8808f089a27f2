-- What each call leaves of the list of requests.
use Rattle.std.specs.Prelude.{◌≡◌, IfSome, ℕ, Bool, true, ◌&&◌, ◌==◌, not, if◌then◌else◌, List, [], ◌∷◌, ◌++◌, map, Some, None, is_some, unwrap_or}
use Rattle.std.specs.List.{find, filter}
use Rattle.fbc_levels.specs.declared.levels.Level.{Level}
use Rattle.fbc_levels.specs.declared.levels.Level.TheVariants.{Free}
use Rattle.fbc_levels.specs.declared.resources.Resource.{Resource}
use Rattle.fbc_levels.specs.declared.resources.Request.{Request}
use Rattle.fbc_levels.specs.Levels.{is_free}
use Rattle.fbc_levels.specs.LockState.{LockState, is_of, is_wait_of, request_of, holder_of}
use Rattle.fbc_lock_table.specs.declared.answers.Asked.{Asked}
use Rattle.fbc_lock_table.specs.declared.answers.Asked.TheVariants.{Granted, Queued}

-- A request of a living owner with no level yet.
abbrev pub new_request : ℕ → Resource → ℕ → Request
new_request owner resource word =
    record { owner = owner; resource = resource; granted = Free; waiting = None; word = word; alive = true }

-- The requests with one of this owner for this resource, behind all others where there was none.
abbrev pub entered : List Request → ℕ → Resource → ℕ → List Request
entered requests owner resource word =
    if is_some (find (is_of owner resource) requests) then requests else requests ++ new_request owner resource word ∷ []

-- This owner's request for this resource has this granted level; others stay.
abbrev pub with_granted : ℕ → Resource → Level → Request → Request
with_granted owner resource level r = record r { granted = if is_of owner resource r then level else r.granted }

-- This owner's request for this resource waits for this level; others stay.
abbrev pub with_waiting : ℕ → Resource → Level → Request → Request
with_waiting owner resource level r = record r { waiting = if is_of owner resource r then Some level else r.waiting }

-- What an ask leaves, by its answer.
abbrev pub requests_after : List Request → ℕ → Resource → Level → ℕ → Asked → List Request
requests_after requests owner resource level word Granted =
    map (with_granted owner resource level) (entered requests owner resource word)
requests_after requests owner resource level word Queued =
    map (with_waiting owner resource level) (entered requests owner resource word)
requests_after requests owner resource level word _ = requests

abbrev pub after_ask : LockState → ℕ → Resource → Level → ℕ → Asked → LockState
after_ask s owner resource level word answer =
    record s { requests = requests_after s.requests owner resource level word answer }

-- Without this owner's request for this resource.
abbrev pub without : LockState → ℕ → Resource → LockState
without s owner resource = record s { requests = filter (λ r. not (is_of owner resource r)) s.requests }

-- What a lowering leaves: none takes the request away.
abbrev pub lowered : LockState → ℕ → Resource → Level → LockState
lowered s owner resource Free = without s owner resource
lowered s owner resource level = record s { requests = map (with_granted owner resource level) s.requests }

-- Whether the owner waits by it and has no level by it.
abbrev pub is_bare_wait_of : ℕ → Request → Bool
is_bare_wait_of owner r = is_wait_of owner r && is_free r.granted

-- This owner's request waits for nothing; others stay.
abbrev pub without_wait : ℕ → Request → Request
without_wait owner r = record r { waiting = if r.owner == owner then None else r.waiting }

-- What a withdrawal leaves.
abbrev pub withdrawn : LockState → ℕ → LockState
withdrawn s owner =
    record s { requests = map (without_wait owner) (filter (λ r. not (is_bare_wait_of owner r)) s.requests) }

-- This owner's request is a dead owner's; others stay.
abbrev pub of_dead : ℕ → Request → Request
of_dead owner r = record r { alive = not (r.owner == owner) && r.alive }

-- What a death leaves.
abbrev pub died : LockState → ℕ → LockState
died s owner = record s { requests = map (of_dead owner) s.requests }

-- This owner's request for this resource is granted what it waits for; others stay.
abbrev pub granting : ℕ → Resource → Request → Request
granting owner resource r =
    record r { granted = if is_of owner resource r then unwrap_or r.waiting r.granted else r.granted; waiting = if is_of owner resource r then None else r.waiting }

-- What the owner waits for on the resource may be granted: nobody is in the way of it.
abbrev pub MayGrant : LockState → ℕ → Resource → Type 0
MayGrant s owner resource =
    IfSome (request_of s owner resource) (λ r. IfSome r.waiting (λ level. holder_of s owner resource level ≡ None))

abbrev pub after_grant : LockState → ℕ → Resource → LockState
after_grant s owner resource = record s { requests = map (granting owner resource) s.requests }
