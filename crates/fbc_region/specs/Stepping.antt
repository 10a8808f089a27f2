-- One atomic step: when it may be taken, and what it comes to.
use Rattle.std.specs.Prelude.{◌≡◌, ◌⊎◌, ℕ, ◌+◌, ◌*◌, ◌-◌, ◌≤◌, min, Bool, true, false, List, [], ◌∷◌, ◌++◌, length, take, drop, replicate, Option, Some, None}
use Rattle.fbc_blocking.specs.Callbacks.{IsNextCallback, KeepsNobodyOut}
use Rattle.fbc_levels.specs.declared.resources.Series.TheVariants as series
use Rattle.fbc_levels.specs.Levels.{join}
use Rattle.fbc_levels.specs.LockState.{granted_of, wait_of}
use Rattle.fbc_lock_table.specs.Answers.{MayAsk, least_data_of}
use Rattle.fbc_owner_queues.specs.Grants.{first_of}
use Rattle.fbc_legal.specs.Guards.{GuardOfEnter}
use Rattle.fbc_legal.specs.Scene.{Scene, scene_of}
use Rattle.fbc_world.specs.declared.answers.Answer.{Answer}
use Rattle.fbc_world.specs.declared.answers.Answer.TheVariants as answers
use Rattle.fbc_world.specs.declared.asks.Ask.{Ask}
use Rattle.fbc_world.specs.declared.asks.Ask.TheVariants as ask
use Rattle.fbc_world.specs.declared.events.Act.TheVariants as act
use Rattle.fbc_world.specs.declared.events.LocalEvent.{LocalEvent}
use Rattle.fbc_world.specs.History.{Recording, recorded}
use Rattle.fbc_world.specs.Owners.{is_alive}
use Rattle.fbc_world.specs.PageCell.{blank_file}
use Rattle.fbc_outside.specs.Bytes.{IsWritten}
use Rattle.fbc_outside.specs.Landings.{LandedOrNot}
use Rattle.fbc_region.specs.Adding.{Adds, by, local_events}
use Rattle.fbc_region.specs.Answering.{IsAsked, IsLooked, answer_to_withdrawal}
use Rattle.fbc_region.specs.Granting.{AddsWithGrants}
use Rattle.fbc_region.specs.Shared.{locks_in}

-- The scene after what a journal records, over a file of blank pages. Of who came and who is alive it tells the same over any file.
abbrev pub recorded_scene : Recording → Scene
recorded_scene journal = scene_of journal.shape blank_file (recorded journal)

-- What is owed for an ask besides that its owner is alive: who goes has no request; the lock table may be asked so; a level that is
-- lowered is a part of the one that was granted; a page that is written lies within the device's reach.
abbrev pub MeetsConditions : ℕ → ℕ → Recording → ℕ → Ask → Type 0
MeetsConditions reach size journal who ask.Leave = first_of (locks_in journal) who ≡ None
MeetsConditions reach size journal who (ask.Lock resource level wait word) = MayAsk (locks_in journal) who resource level
MeetsConditions reach size journal who (ask.Lower resource level) =
    join (granted_of (locks_in journal) who resource) level ≡ granted_of (locks_in journal) who resource
MeetsConditions reach size journal who (ask.Write page cause) = (page + 1) * size ≤ reach
MeetsConditions reach size journal who _ = Unit {0}

-- An owner that comes meets its guard; every other that asks is alive.
abbrev pub MayPerform : ℕ → ℕ → Recording → ℕ → Ask → Type 0
MayPerform reach size journal who (ask.Enter buffers name) = GuardOfEnter (recorded_scene journal) who name
MayPerform reach size journal who asked = (is_alive (recorded journal) who ≡ true) × MeetsConditions reach size journal who asked

-- A page is read, or the read fails.
abbrev pub answers_read : Bool → ℕ → Answer
answers_read true length = answers.ReadFault
answers_read false length = answers.PageIs length

-- A page is written, or the write fails.
abbrev pub answers_write : Bool → Answer
answers_write true = answers.WriteFault
answers_write false = answers.Written

-- An answer blames the device: a read or a write of it failed.
abbrev pub BlamesDevice : Answer → Type 0
BlamesDevice answer = (answer ≡ answers.ReadFault) ⊎ (answer ≡ answers.WriteFault)

-- A poll names the next callback, if one stands.
abbrev pub AnswersPoll : Recording → ℕ → Option ℕ → Answer → Type 0
AnswersPoll journal who above (answers.Callback callback) = IsNextCallback (locks_in journal) who above callback
AnswersPoll journal who above answers.NoCallback = KeepsNobodyOut (locks_in journal) who above
AnswersPoll journal who above _ = ⊥

-- What a step is answered, and what it adds to the journal.
abbrev pub StepComesTo : Recording → Recording → ℕ → Answer → Ask → Type 0
StepComesTo before after who answer (ask.Enter buffers name) = (answer ≡ answers.Noted) × Adds before after (by who (act.Enter buffers name) ∷ [])
StepComesTo before after who answer ask.Leave = (answer ≡ answers.Noted) × Adds before after (by who act.Leave ∷ [])
StepComesTo before after who answer (ask.Lock resource level wait word) = IsAsked before after who resource level wait word answer
StepComesTo before after who answer ask.Look = IsLooked before after who answer
StepComesTo before after who answer ask.Withdraw =
    (answer ≡ answer_to_withdrawal (wait_of (locks_in before) who)) × Adds before after (by who act.Withdraw ∷ [])
    × (answer ≡ answers.Granted → locks_in after ≡ locks_in before)
StepComesTo before after who answer (ask.Lower resource level) =
    (answer ≡ answers.Noted) × AddsWithGrants before after (by who (act.Lower resource level)) (resource ∷ [])
StepComesTo before after who answer (ask.Read page) =
    (fault : Bool) × (length : ℕ) × (answer ≡ answers_read fault length) × Adds before after (by who (act.Read page fault) ∷ [])
StepComesTo before after who answer (ask.Write page cause) =
    (failed : Bool) × (answer ≡ answers_write failed) × Adds before after (by who (act.Write page cause failed) ∷ [])
StepComesTo before after who answer (ask.Poll above) = AnswersPoll before who above answer × Adds before after (by who (act.Poll above) ∷ [])
StepComesTo before after who answer ask.Least =
    (answer ≡ answers.Least (least_data_of (locks_in before) series.Transaction)) × Adds before after (by who act.Least ∷ [])
StepComesTo before after who answer (ask.Note reply) = (answer ≡ answers.Noted) × Adds before after (by who (act.Note reply) ∷ [])

-- A step records what the owner did in its own cache, and then its own event with the grants that it causes.
pub record Performs (before after : Recording) (who : ℕ) (events : List LocalEvent) (answer : Answer) (asked : Ask) : Type 0 where
  pub between : Recording
  pub local : Adds before between (local_events who events)
  pub step : StepComesTo between after who answer asked

-- Whether a step reads the device, and whether it writes it. Every step calls it once at most.
abbrev pub is_read : Ask → Bool
is_read (ask.Read page) = true
is_read _ = false

abbrev pub is_write : Ask → Bool
is_write (ask.Write page cause) = true
is_write _ = false

-- What is read of a page into a buffer of its size: as many bytes as the device has of it, and zeros behind them.
abbrev pub IsPageRead : Option (List ℕ) → ℕ → List ℕ → ℕ → Type 0
IsPageRead None at image count = (count ≤ length image) × (drop count image ≡ replicate (length image - count) 0)
IsPageRead (Some bytes) at image count =
    (count ≡ min (length image) (length bytes - at)) × (image ≡ take count (drop at bytes) ++ replicate (length image - count) 0)

-- What the answer of a read says of the buffer.
abbrev pub ReadLeaves : Option (List ℕ) → ℕ → List ℕ → Answer → Type 0
ReadLeaves bytes at image (answers.PageIs count) = IsPageRead bytes at image count
ReadLeaves bytes at image _ = Unit {0}

-- What the answer of a write says of the device.
abbrev pub WriteLeaves : Option (List ℕ) → Option (List ℕ) → List Bool → List Bool → ℕ → List ℕ → Answer → Type 0
WriteLeaves bytes now landings landings_now at image answers.Written = IsWritten bytes now at image × (landings_now ≡ landings)
WriteLeaves bytes now landings landings_now at image answers.WriteFault = LandedOrNot bytes now landings landings_now at image
WriteLeaves bytes now landings landings_now at image _ = ⊥

-- What a step does to the device's bytes and landings and to the buffer: a read fills the buffer, a write writes it, and all other
-- steps leave them.
abbrev pub PagesComeTo : ℕ → Option (List ℕ) → Option (List ℕ) → List Bool → List Bool → List ℕ → List ℕ → Answer → Ask → Type 0
PagesComeTo size bytes now landings landings_now image image_now answer (ask.Read page) =
    ReadLeaves bytes (page * size) image_now answer × (now ≡ bytes) × (landings_now ≡ landings)
PagesComeTo size bytes now landings landings_now image image_now answer (ask.Write page cause) =
    WriteLeaves bytes now landings landings_now (page * size) image answer × (image_now ≡ image)
PagesComeTo size bytes now landings landings_now image image_now answer _ = (now ≡ bytes) × (landings_now ≡ landings) × (image_now ≡ image)
