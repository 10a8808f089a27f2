-- Which grants a lowering or a purge causes.
use Rattle.std.specs.Prelude.{◌≡◌, ℕ, Bool, ◌&&◌, List, [], ◌∷◌, ◌++◌, length, map, Some, None, is_some}
use Rattle.std.specs.List.{filter}
use Rattle.fbc_levels.specs.declared.levels.Level.{Level}
use Rattle.fbc_levels.specs.declared.resources.Request.{Request}
use Rattle.fbc_levels.specs.declared.resources.Resource.{Resource}
use Rattle.fbc_levels.specs.LockState.{LockState}
use Rattle.fbc_lock_table.specs.Effects.{after_grant, without}
use Rattle.fbc_owner_queues.specs.Grants.{first_of, is_by, next_grant}
use Rattle.fbc_world.specs.declared.events.Act.TheVariants.{Grant}
use Rattle.fbc_world.specs.declared.events.Event.{Event}
use Rattle.fbc_world.specs.History.{Recording}
use Rattle.fbc_world.specs.Locks.{locks_step}
use Rattle.fbc_region.specs.Adding.{Adds, by}
use Rattle.fbc_region.specs.Shared.{locks_in}

-- The grants on one resource, and the requests that they lead to: in the order of asking the first that waits and can be granted
-- is granted what it waits for, until there is none.
pub data GrantedOn (resource : Resource) : LockState → List Event → LockState → Type 0 where
  ended : (s later : LockState) (grants : List Event) → next_grant s resource ≡ None → later ≡ s → grants ≡ [] → GrantedOn resource s grants later
  granted : (s later : LockState) (grants rest : List Event) (r : Request) (level : Level)
      → next_grant s resource ≡ Some r → r.waiting ≡ Some level → grants ≡ by r.owner (Grant resource level) ∷ rest
      → GrantedOn resource (after_grant s r.owner r.resource) rest later
      → GrantedOn resource s grants later

-- Whether a living owner waits by the request.
abbrev pub is_live_wait : Request → Bool
is_live_wait r = r.alive && is_some r.waiting

-- How many living owners wait.
abbrev pub waits_in : LockState → ℕ
waits_in s = length (filter is_live_wait s.requests)

-- The grants on each of these resources, one after the other.
abbrev pub AreGrants : List Resource → LockState → List Event → Type 0
AreGrants [] s grants = grants ≡ []
AreGrants (resource ∷ others) s grants =
    (first : List Event) × (rest : List Event) × (later : LockState)
    × (grants ≡ first ++ rest) × GrantedOn resource s first later × AreGrants others later rest

-- The journal with an owner's event, and then with the grants on these resources that it causes.
pub record AddsWithGrants (before after : Recording) (own : Event) (resources : List Resource) : Type 0 where
  pub grants : List Event
  pub adds : Adds before after (own ∷ grants)
  pub are : AreGrants resources (locks_step (locks_in before) own.actor own.act) grants

-- What an owner has requests for, in the order of asking.
abbrev pub resources_of : LockState → ℕ → List Resource
resources_of s owner = map (λ (r : Request). r.resource) (filter (is_by owner) s.requests)

-- The grants of a purge, and the requests that it leads to: the dead owner's requests go in the order of asking, and after each
-- come the grants on its resource.
pub data Purged (dead : ℕ) : LockState → List Event → LockState → Type 0 where
  over : (s later : LockState) (grants : List Event) → first_of s dead ≡ None → later ≡ s → grants ≡ [] → Purged dead s grants later
  goes : (s mid later : LockState) (grants first rest : List Event) (r : Request) → first_of s dead ≡ Some r
      → GrantedOn r.resource (without s r.owner r.resource) first mid
      → grants ≡ first ++ rest → Purged dead mid rest later → Purged dead s grants later
