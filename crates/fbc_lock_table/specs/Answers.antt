-- What an ask and a look answer, and which data word is the least.
use Rattle.std.specs.Prelude.{◌≡◌, ◌≢◌, ℕ, Bool, false, ◌&&◌, ◌==◌, not, if◌then◌else◌, length, map, min, Option, Some, None, is_none}
use Rattle.std.specs.List.{filter, reduce}
use Rattle.fbc_levels.specs.declared.levels.Level.{Level}
use Rattle.fbc_levels.specs.declared.levels.Level.TheVariants.{Free}
use Rattle.fbc_levels.specs.declared.resources.Series.{Series}
use Rattle.fbc_levels.specs.declared.resources.Series.TheVariants.{Page}
use Rattle.fbc_levels.specs.declared.resources.Resource.{Resource}
use Rattle.fbc_levels.specs.declared.resources.Request.{Request}
use Rattle.fbc_levels.specs.Levels.{is_exclusive}
use Rattle.fbc_levels.specs.Resources.{is_same_series}
use Rattle.fbc_levels.specs.LockState.{LockState, Lives, IsDead, request_of, wait_of, holder_of, dead_of}
use Rattle.fbc_lock_table.specs.declared.answers.Asked.{Asked}
use Rattle.fbc_lock_table.specs.declared.answers.Asked.TheVariants as asked
use Rattle.fbc_lock_table.specs.declared.answers.Looked.{Looked}
use Rattle.fbc_lock_table.specs.declared.answers.Looked.TheVariants as looked

-- When an owner may ask: it lives and waits for nothing, the level is one, and it has no request for the resource if that is a page.
pub record MayAsk (s : LockState) (owner : ℕ) (resource : Resource) (level : Level) : Type 0 where
  pub lives : Lives s owner
  pub waits_for_nothing : wait_of s owner ≡ None
  pub some_level : level ≢ Free
  pub new_page : resource.series ≡ Page → request_of s owner resource ≡ None

-- Whether the owner needs a new request and there is no place for one.
abbrev pub lacks_room : LockState → ℕ → Resource → Bool
lacks_room s owner resource = is_none (request_of s owner resource) && (length s.requests == s.capacity)

-- With no place left: a dead owner's requests can go, or there is no room.
abbrev pub answer_in_full : ℕ → Option Request → Asked
answer_in_full used None = asked.Room used
answer_in_full used (Some dead) = asked.Dead dead.owner

-- With a place: granted where nobody is in the way; else a dead holder is to be purged, and beside a living one the owner waits or not.
abbrev pub answer_beside : Bool → Option Request → Asked
answer_beside wait None = asked.Granted
answer_beside wait (Some holder) =
    if not holder.alive then asked.Dead holder.owner
    else (if wait then asked.Queued else asked.Busy holder.owner holder.granted)

-- What an ask answers.
abbrev pub answer_to_ask : LockState → ℕ → Resource → Level → Bool → Asked
answer_to_ask s owner resource level wait =
    if lacks_room s owner resource then answer_in_full (length s.requests) (dead_of s)
    else answer_beside wait (holder_of s owner resource level)

-- An answer by which a request is entered comes only where there is room for it.
abbrev pub NeedsRoom : Asked → Bool → Type 0
NeedsRoom asked.Granted lacking = lacking ≡ false
NeedsRoom asked.Queued lacking = lacking ≡ false
NeedsRoom _ lacking = Unit {0}

-- Granted comes only where nobody is in the way.
abbrev pub NeedsWay : Asked → Option Request → Type 0
NeedsWay asked.Granted holder = holder ≡ None
NeedsWay _ holder = Unit {0}

-- An owner that an ask answers to be dead is so in the table.
abbrev pub AskNamesDead : LockState → Asked → Type 0
AskNamesDead s (asked.Dead owner) = IsDead s owner
AskNamesDead s _ = Unit {0}

-- What a look answers where this is the holder.
abbrev pub answer_to_waiter : Option Request → Looked
answer_to_waiter None = looked.Granted
answer_to_waiter (Some holder) = if holder.alive then looked.NotYet holder.owner else looked.Dead holder.owner

-- The holder of the level that a request waits for.
abbrev pub holder_of_wait : LockState → Resource → Option Level → ℕ → Option Request
holder_of_wait s resource None owner = None
holder_of_wait s resource (Some level) owner = holder_of s owner resource level

-- What a look answers to an owner that waits by this request, if it waits.
abbrev pub answer_by_wait : LockState → ℕ → Option Request → Looked
answer_by_wait s owner None = looked.Granted
answer_by_wait s owner (Some wait) = answer_to_waiter (holder_of_wait s wait.resource wait.waiting owner)

-- What a look answers.
abbrev pub answer_to_look : LockState → ℕ → Looked
answer_to_look s owner = answer_by_wait s owner (wait_of s owner)

-- An owner that a look answers to be dead is so in the table.
abbrev pub LookNamesDead : LockState → Looked → Type 0
LookNamesDead s (looked.Dead owner) = IsDead s owner
LookNamesDead s _ = Unit {0}

-- Whether a living owner holds it in EX, and it is of this series.
abbrev pub is_held_number : Series → Request → Bool
is_held_number series r = is_same_series r.resource.series series && r.alive && is_exclusive r.granted

-- The least data word of those requests.
abbrev pub least_data_of : LockState → Series → Option ℕ
least_data_of s series = reduce min (map (λ (r : Request). r.word) (filter (is_held_number series) s.requests))
