-- What an attachment knows of its locks, also of those on numbers and relations, and what it learns of them.
use Rattle.std.specs.Prelude.{◌≡◌, ◌⊎◌, ℕ, Bool, List, Option, Some, None, unwrap_or}
use Rattle.fbc_levels.specs.declared.levels.Level.{Level}
use Rattle.fbc_levels.specs.declared.levels.Level.TheVariants.{Free}
use Rattle.fbc_levels.specs.declared.resources.Resource.{Resource}
use Rattle.fbc_levels.specs.LockState.{LockState, granted_of, request_of}
use Rattle.fbc_lock_table.specs.declared.answers.Asked.TheVariants as asked
use Rattle.fbc_lock_table.specs.Answers.{answer_to_ask}
use Rattle.fbc_lock_table.specs.Effects.{after_ask}
use Rattle.fbc_owner_queues.specs.Circles.{circle_from}
use Rattle.fbc_fit.specs.Fit.{KnownLock, ShowsLock}

-- What is known of the owner's lock on the resource is what the requests say, but for a late grant.
abbrev pub KnowsLock : LockState → ℕ → Resource → Option KnownLock → Type 0
KnowsLock locks owner resource known = ShowsLock (granted_of locks owner resource) (request_of locks owner resource) known

-- What is waited for is granted.
abbrev pub learnt_lock : KnownLock → KnownLock
learnt_lock known = record { level = unwrap_or known.wanted known.level; wanted = None }

-- A lock that is held in this level and waited for in no other.
abbrev pub held_lock : Level → KnownLock
held_lock level = record { level = level; wanted = None }

-- A level is waited for, beside the one that is held.
abbrev pub asked_lock : Option KnownLock → Level → KnownLock
asked_lock None level = record { level = Free; wanted = Some level }
asked_lock (Some known) level = record { level = (learnt_lock known).level; wanted = Some level }

-- A lock that is given up is known no more.
abbrev pub lowered_lock : Level → Option KnownLock
lowered_lock Free = None
lowered_lock level = Some (held_lock level)

-- The ask is granted, or is waited for without a circle of waits.
abbrev pub IsEntered : LockState → ℕ → Resource → Level → Bool → ℕ → Type 0
IsEntered locks owner resource level wait word =
    (answer_to_ask locks owner resource level wait ≡ asked.Granted)
    ⊎ ((answer_to_ask locks owner resource level wait ≡ asked.Queued)
    × (circle_from (after_ask locks owner resource level word asked.Queued) owner ≡ None))

-- The ask would be waited for, and close a circle of waits.
abbrev pub IsCircled : LockState → ℕ → Resource → Level → Bool → ℕ → Type 0
IsCircled locks owner resource level wait word =
    (circle : List ℕ)
    × (answer_to_ask locks owner resource level wait ≡ asked.Queued)
    × (circle_from (after_ask locks owner resource level word asked.Queued) owner ≡ Some circle)
