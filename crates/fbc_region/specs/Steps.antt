-- The moments of one step behind a history: what its owner and the others may go by, who know no journal.
use Rattle.std.specs.Prelude.{◌≡◌, ℕ, Bool, true, false, List, [], ◌∷◌, Option, Some, None}
use Rattle.fbc_blocking.specs.Callbacks.{IsNextCallback, KeepsNobodyOut}
use Rattle.fbc_levels.specs.declared.levels.Level.{Level}
use Rattle.fbc_levels.specs.declared.resources.Request.{Request}
use Rattle.fbc_levels.specs.declared.resources.Resource.{Resource}
use Rattle.fbc_levels.specs.declared.resources.Series.TheVariants as series
use Rattle.fbc_levels.specs.LockState.{LockState, wait_of}
use Rattle.fbc_lock_table.specs.declared.answers.Asked.TheVariants as asked
use Rattle.fbc_lock_table.specs.declared.answers.Looked.TheVariants as looked
use Rattle.fbc_lock_table.specs.Answers.{answer_to_ask, answer_to_look, least_data_of}
use Rattle.fbc_lock_table.specs.Effects.{after_ask}
use Rattle.fbc_owner_queues.specs.Circles.{circle_from}
use Rattle.fbc_world.specs.declared.answers.Answer.{Answer}
use Rattle.fbc_world.specs.declared.answers.Answer.TheVariants as answers
use Rattle.fbc_world.specs.declared.asks.Ask.{Ask}
use Rattle.fbc_world.specs.declared.asks.Ask.TheVariants as ask
use Rattle.fbc_world.specs.declared.events.Act.{Act}
use Rattle.fbc_world.specs.declared.events.Act.TheVariants as act
use Rattle.fbc_world.specs.declared.events.Event.{Event}
use Rattle.fbc_world.specs.declared.events.LocalEvent.{LocalEvent}
use Rattle.fbc_world.specs.History.{History, happens}
use Rattle.fbc_world.specs.Locks.{locks_of, locks_step}
use Rattle.fbc_region.specs.Adding.{by}
use Rattle.fbc_region.specs.Granting.{AreGrants, resources_of}
use Rattle.fbc_region.specs.Lawful.{with_locals}
use Rattle.fbc_region.specs.Stepping.{answers_read, answers_write}

-- The history after these events more, none of them a failed write that landed.
abbrev pub with_events : History → List Event → History
with_events past [] = past
with_events past (event ∷ events) = with_events (record { event = event; landed = false } ∷ past) events

-- Whether a read or a write failed.
abbrev pub is_fault : Answer → Bool
is_fault answers.ReadFault = true
is_fault answers.WriteFault = true
is_fault _ = false

-- What is recorded of an ask: this act, or that a dead owner was reaped in its place.
abbrev pub act_or_reap : Ask → Act → Answer → Act
act_or_reap for own (answers.Reaped dead) = act.Reap dead for
act_or_reap for own _ = own

-- The act that an ask with this answer is recorded as.
abbrev pub act_of : Answer → Ask → Act
act_of answer (ask.Enter buffers name) = act.Enter buffers name
act_of answer ask.Leave = act.Leave
act_of answer (ask.Lock resource level wait word) = act_or_reap (ask.Lock resource level wait word) (act.Ask resource level wait word) answer
act_of answer ask.Look = act_or_reap ask.Look act.Look answer
act_of answer ask.Withdraw = act.Withdraw
act_of answer (ask.Lower resource level) = act.Lower resource level
act_of answer (ask.Read page) = act.Read page (is_fault answer)
act_of answer (ask.Write page cause) = act.Write page cause (is_fault answer)
act_of answer (ask.Poll above) = act.Poll above
act_of answer ask.Least = act.Least
act_of answer (ask.Note reply) = act.Note reply

-- The ask is queued, and to wait would close this circle, or none.
pub record IsQueued (locks : LockState) (who : ℕ) (resource : Resource) (level : Level) (wait : Bool) (word : ℕ) (circle : Option (List ℕ)) : Type 0 where
  pub queued : answer_to_ask locks who resource level wait ≡ asked.Queued
  pub closes : circle_from (after_ask locks who resource level word asked.Queued) who ≡ circle

-- What the answer to an ask for a lock says of the requests before it.
abbrev pub TellsLock : LockState → ℕ → Resource → Level → Bool → ℕ → Answer → Type 0
TellsLock locks who resource level wait word answers.Granted = answer_to_ask locks who resource level wait ≡ asked.Granted
TellsLock locks who resource level wait word answers.Queued = IsQueued locks who resource level wait word None
TellsLock locks who resource level wait word (answers.Deadlock circle) = IsQueued locks who resource level wait word (Some circle)
TellsLock locks who resource level wait word (answers.Busy holder held) = answer_to_ask locks who resource level wait ≡ asked.Busy holder held
TellsLock locks who resource level wait word (answers.Room used) = answer_to_ask locks who resource level wait ≡ asked.Room used
TellsLock locks who resource level wait word (answers.Reaped dead) = answer_to_ask locks who resource level wait ≡ asked.Dead dead
TellsLock locks who resource level wait word _ = ⊥

-- What the answer to a look says of them.
abbrev pub TellsLook : LockState → ℕ → Answer → Type 0
TellsLook locks who answers.Granted = answer_to_look locks who ≡ looked.Granted
TellsLook locks who (answers.NotYet holder) = answer_to_look locks who ≡ looked.NotYet holder
TellsLook locks who (answers.Reaped dead) = answer_to_look locks who ≡ looked.Dead dead
TellsLook locks who _ = ⊥

-- What the answer to a withdrawal says of them.
abbrev pub TellsWithdrawal : LockState → ℕ → Answer → Type 0
TellsWithdrawal locks who answers.Granted = wait_of locks who ≡ None
TellsWithdrawal locks who answers.Noted = (wait : Request) × (wait_of locks who ≡ Some wait)
TellsWithdrawal locks who _ = ⊥

-- What the answer to a poll says of them.
abbrev pub TellsPoll : LockState → ℕ → Option ℕ → Answer → Type 0
TellsPoll locks who above (answers.Callback callback) = IsNextCallback locks who above callback
TellsPoll locks who above answers.NoCallback = KeepsNobodyOut locks who above
TellsPoll locks who above _ = ⊥

-- What an answer says of the requests before the ask, and which answers there are.
abbrev pub Tells : LockState → ℕ → Answer → Ask → Type 0
Tells locks who answer (ask.Lock resource level wait word) = TellsLock locks who resource level wait word answer
Tells locks who answer ask.Look = TellsLook locks who answer
Tells locks who answer ask.Withdraw = TellsWithdrawal locks who answer
Tells locks who answer (ask.Read page) = (fault : Bool) × (length : ℕ) × (answer ≡ answers_read fault length)
Tells locks who answer (ask.Write page cause) = (failed : Bool) × (answer ≡ answers_write failed)
Tells locks who answer (ask.Poll above) = TellsPoll locks who above answer
Tells locks who answer ask.Least = answer ≡ answers.Least (least_data_of locks series.Transaction)
Tells locks who answer _ = answer ≡ answers.Noted

-- An ask that is granted at once is followed by its grant.
abbrev pub own_grant : ℕ → Resource → Level → Answer → List Event
own_grant who resource level answers.Granted = by who (act.Grant resource level) ∷ []
own_grant who resource level _ = []

-- The grants behind an owner's act: its own where what it asks is granted at once; those on the resource of a lowering; and those on
-- all that a reaped owner had requests for. No other act is followed by any.
abbrev pub FollowAct : LockState → ℕ → Answer → Act → List Event → Type 0
FollowAct locks who answer (act.Ask resource level wait word) grants = grants ≡ own_grant who resource level answer
FollowAct locks who answer (act.Lower resource level) grants = AreGrants (resource ∷ []) (locks_step locks who (act.Lower resource level)) grants
FollowAct locks who answer (act.Reap dead for) grants = AreGrants (resources_of locks dead) (locks_step locks who (act.Reap dead for)) grants
FollowAct locks who answer _ grants = grants ≡ []

-- What an ask comes to behind a history: its owner's own moment, and then the grants that follow it. Only a failed write may land.
pub record IsAnswered (past : History) (who : ℕ) (answer : Answer) (asked : Ask) (later : History) : Type 0 where
  pub tells : Tells (locks_of past) who answer asked
  pub landed : Bool
  pub lands : landed ≡ true → answer ≡ answers.WriteFault
  pub grants : List Event
  pub follow : FollowAct (locks_of past) who answer (act_of answer asked) grants
  pub later_is : later ≡ with_events (happens who (act_of answer asked) landed ∷ past) grants

-- One step: what the owner did in its own cache, event by event, and then its ask.
abbrev pub IsStepOf : History → ℕ → List LocalEvent → Ask → Answer → History → Type 0
IsStepOf history who events asked answer later = IsAnswered (with_locals history who events) who answer asked later

-- The event is the grant of a level to some owner.
pub record IsGrant (event : Event) : Type 0 where
  pub owner : ℕ
  pub resource : Resource
  pub level : Level
  pub is : event ≡ by owner (act.Grant resource level)
