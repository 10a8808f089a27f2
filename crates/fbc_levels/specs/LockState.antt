-- The state of the locks: a list of requests in the order of asking.
use Rattle.std.specs.Prelude.{◌≡◌, ◌≢◌, ℕ, ◌≤◌, Bool, true, false, not, ◌&&◌, ◌==◌, nat_lt, if◌then◌else◌, List, length, Option, is_some, IsTrue, IsSome, IsNone}
use Rattle.std.specs.Option.{option_map_or}
use Rattle.std.specs.List.{All, AllPairs, Contains, find, filter, list_any, reduce}
use Rattle.fbc_levels.specs.declared.levels.Level.{Level}
use Rattle.fbc_levels.specs.declared.levels.Level.TheVariants.{Free}
use Rattle.fbc_levels.specs.declared.resources.Resource.{Resource}
use Rattle.fbc_levels.specs.declared.resources.Request.{Request}
use Rattle.fbc_levels.specs.Levels.{is_compatible}
use Rattle.fbc_levels.specs.Resources.{is_same_resource}

-- How many requests there may be, and those that there are, in the order of asking.
pub record LockState : Type 0 where
  pub capacity : ℕ
  pub requests : List Request

-- Whether it is this owner's request for this resource.
abbrev pub is_of : ℕ → Resource → Request → Bool
is_of owner resource r = (r.owner == owner) && is_same_resource r.resource resource

-- The owner's request for the resource.
abbrev pub request_of : LockState → ℕ → Resource → Option Request
request_of s owner resource = find (is_of owner resource) s.requests

-- The level that the owner is granted on the resource.
abbrev pub granted_of : LockState → ℕ → Resource → Level
granted_of s owner resource = option_map_or (λ (r : Request). r.granted) (request_of s owner resource) Free

-- Whether it is a request by which this owner waits.
abbrev pub is_wait_of : ℕ → Request → Bool
is_wait_of owner r = (r.owner == owner) && is_some r.waiting

-- The request by which the owner waits.
abbrev pub wait_of : LockState → ℕ → Option Request
wait_of s owner = find (is_wait_of owner) s.requests

-- Whether its owner is dead.
abbrev pub is_dead : Request → Bool
is_dead r = not r.alive

-- Whether it is a request of this owner, who is dead.
abbrev pub is_dead_of : ℕ → Request → Bool
is_dead_of owner r = (r.owner == owner) && is_dead r

-- No request of this owner says that it is dead.
abbrev pub Lives : LockState → ℕ → Type 0
Lives s owner = list_any (is_dead_of owner) s.requests ≡ false

-- Whether it is a request of this owner, who lives.
abbrev pub is_alive_of : ℕ → Request → Bool
is_alive_of owner r = (r.owner == owner) && r.alive

-- No request of this owner says that it lives.
abbrev pub IsDead : LockState → ℕ → Type 0
IsDead s owner = list_any (is_alive_of owner) s.requests ≡ false

-- Whether it keeps this owner from being granted this level: it is another's, living or dead, whose granted level conflicts.
abbrev pub stands_in_way : ℕ → Resource → Level → Request → Bool
stands_in_way owner resource level r =
    is_same_resource r.resource resource && not (r.owner == owner) && not (is_compatible level r.granted)

-- Of two requests the one of the lesser owner, and of equal owners the first.
abbrev pub lesser : Request → Request → Request
lesser r t = if nat_lt t.owner r.owner then t else r

-- The request of the least owner.
abbrev pub of_least_owner : List Request → Option Request
of_least_owner requests = reduce lesser requests

-- The dead owner with the least number, of those that have requests.
abbrev pub dead_of : LockState → Option Request
dead_of s = of_least_owner (filter is_dead s.requests)

-- The request of the least owner that keeps this owner from being granted this level.
abbrev pub holder_of : LockState → ℕ → Resource → Level → Option Request
holder_of s owner resource level = of_least_owner (filter (stands_in_way owner resource level) s.requests)

-- It keeps this owner from being granted this level, and nobody with a lesser number does.
pub record IsHolder (s : LockState) (owner : ℕ) (resource : Resource) (level : Level) (holder : Request) : Type 0 where
  pub among : Contains s.requests holder
  pub in_way : stands_in_way owner resource level holder ≡ true
  pub least : All (λ (r : Request). stands_in_way owner resource level r ≡ true → holder.owner ≤ r.owner) s.requests

-- Another owner's granted level conflicts with the level that this owner wants.
abbrev pub IsBlocked : LockState → ℕ → Resource → Level → Type 0
IsBlocked s owner resource level = IsSome (holder_of s owner resource level)

-- Granted levels of different owners on one resource go beside each other.
abbrev pub GoBeside : Request → Request → Type 0
GoBeside r t = r.resource ≡ t.resource → r.owner ≢ t.owner → IsTrue (is_compatible r.granted t.granted)

-- An owner has one request for a resource.
abbrev pub AreApart : Request → Request → Type 0
AreApart r t = r.owner ≡ t.owner → r.resource ≢ t.resource

-- An owner waits by one request.
abbrev pub WaitOnce : Request → Request → Type 0
WaitOnce r t = r.owner ≡ t.owner → IsSome r.waiting → IsNone t.waiting

-- The requests of an owner agree on whether it is alive.
abbrev pub ShareFate : Request → Request → Type 0
ShareFate r t = r.owner ≡ t.owner → r.alive ≡ t.alive

-- Granted levels go beside each other, and an owner has one request for each resource and one waiting request at most.
pub record IsLawful (s : LockState) : Type 0 where
  pub beside : AllPairs GoBeside s.requests
  pub apart : AllPairs AreApart s.requests
  pub one_wait : AllPairs WaitOnce s.requests
  pub one_fate : AllPairs ShareFate s.requests
  pub room : length s.requests ≤ s.capacity
