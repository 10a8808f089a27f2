-- What a step that writes no page adds to a history leaves what the file keeps.
use Rattle.std.proofs.Common.{◌≡◌, ◌∙◌, ℕ, Bool, true, false, List, [], ◌∷◌, ◌++◌, Option, Some, None, refl}
use Rattle.std.specs.List.{AllByRecursion}
use Rattle.fbc_kinds.specs.declared.shapes.Shape.{Shape}
use Rattle.fbc_kinds.specs.View.{View}
use Rattle.fbc_levels.specs.declared.levels.Level.{Level}
use Rattle.fbc_levels.specs.declared.resources.Request.{Request}
use Rattle.fbc_levels.specs.declared.resources.Resource.{Resource}
use Rattle.fbc_levels.specs.LockState.{LockState, wait_of}
use Rattle.fbc_lock_table.specs.declared.answers.Asked.{Asked}
use Rattle.fbc_lock_table.specs.declared.answers.Asked.TheVariants as asked
use Rattle.fbc_lock_table.specs.declared.answers.Looked.{Looked}
use Rattle.fbc_lock_table.specs.declared.answers.Looked.TheVariants as looked
use Rattle.fbc_lock_table.specs.Answers.{answer_to_ask, answer_to_look}
use Rattle.fbc_lock_table.specs.Effects.{after_ask}
use Rattle.fbc_owner_queues.specs.Circles.{circle_from}
use Rattle.fbc_world.specs.declared.answers.Answer.{Answer}
use Rattle.fbc_world.specs.declared.answers.Answer.TheVariants as answers
use Rattle.fbc_world.specs.declared.asks.Ask.{Ask}
use Rattle.fbc_world.specs.declared.asks.Ask.TheVariants as ask
use Rattle.fbc_world.specs.declared.events.Act.{Act}
use Rattle.fbc_world.specs.declared.events.Act.TheVariants as act
use Rattle.fbc_world.specs.declared.events.Event.{Event}
use Rattle.fbc_world.specs.declared.events.LocalEvent.{LocalEvent}
use Rattle.fbc_world.specs.declared.events.LocalEvent.TheVariants as local
use Rattle.fbc_world.specs.History.{History, Recording, happens}
use Rattle.fbc_world.specs.Locks.{locks_step}
use Rattle.fbc_world.specs.World.{World, acted, world_of}
use Rattle.fbc_region.specs.Adding.{Adds, by}
use Rattle.fbc_region.specs.Answering.{AskComesTo, LookComesTo, answer_to_wait, answer_to_withdrawal}
use Rattle.fbc_region.specs.Granting.{AddsWithGrants, AreGrants, GrantedOn, ended, granted}
use Rattle.fbc_region.specs.Lawful.{AreLandings, with_locals}
use Rattle.fbc_region.specs.Shared.{locks_in}
use Rattle.fbc_region.specs.Stepping.{AnswersPoll, StepComesTo, answers_read}
use Rattle.fbc_region.proofs.Grown.{lengthened}

abbrev pub is_write_fault : Answer → Bool
is_write_fault answers.WriteFault = true
is_write_fault _ = false

-- Where no write failed there is no landing.
pub no_landing : (answer : Answer) (new : List Bool) → is_write_fault answer ≡ false → AreLandings answer new → new ≡ []
no_landing answers.WriteFault new isnt are = absurd cc
no_landing _ new isnt are = are

pub waits_write_none : (circle : Option (List ℕ)) → is_write_fault (answer_to_wait circle) ≡ false
waits_write_none None = refl
waits_write_none (Some circle) = refl

pub withdraws_write_none : (wait : Option Request) → is_write_fault (answer_to_withdrawal wait) ≡ false
withdraws_write_none None = refl
withdraws_write_none (Some wait) = refl

pub reads_write_none : (fault : Bool) (length : ℕ) → is_write_fault (answers_read fault length) ≡ false
reads_write_none true length = refl
reads_write_none false length = refl

pub no_landing_there : (answer : Answer) → is_write_fault answer ≡ false → AreLandings answer []
no_landing_there answers.WriteFault isnt = absurd cc
no_landing_there _ isnt = refl

abbrev pub is_write : Act → Bool
is_write (act.Write page cause failed) = true
is_write _ = false

abbrev pub IsCalm : Event → Type 0
IsCalm event = is_write event.act ≡ false

pub kept_acted : (shape : Shape) (w : World) (owner : ℕ) (own : Act) (landed : Bool) → is_write own ≡ false → (acted shape w owner own landed).kept ≡ w.kept
kept_acted shape w owner (act.Write page cause failed) landed calm = absurd cc
kept_acted shape w owner (act.Local (local.Edit page e)) landed calm = refl
kept_acted shape w owner (act.Local (local.Before high low)) landed calm = refl
kept_acted shape w owner (act.Local (local.Pin page)) landed calm = refl
kept_acted shape w owner (act.Local (local.Unpin page)) landed calm = refl
kept_acted shape w owner _ landed calm = refl

pub kept_lengthened : (shape : Shape) (file : View) (history : History) (events : List Event) → AllByRecursion IsCalm events → (world_of shape file (lengthened history events)).kept ≡ (world_of shape file history).kept
kept_lengthened shape file history [] calm = refl
kept_lengthened shape file history (event ∷ events) calm =
    kept_lengthened shape file (record { event = event; landed = false } ∷ history) events calm.1 ∙ kept_acted shape (world_of shape file history) event.actor event.act false calm.0

pub kept_locals : (shape : Shape) (file : View) (history : History) (owner : ℕ) (events : List LocalEvent) → (world_of shape file (with_locals history owner events)).kept ≡ (world_of shape file history).kept
kept_locals shape file history owner [] = refl
kept_locals shape file history owner (event ∷ events) =
    kept_locals shape file (happens owner (act.Local event) false ∷ history) owner events ∙ kept_acted shape (world_of shape file history) owner (act.Local event) false refl

calm_append : (first rest : List Event) → AllByRecursion IsCalm first → AllByRecursion IsCalm rest → AllByRecursion IsCalm (first ++ rest)
calm_append [] rest one other = other
calm_append (event ∷ first) rest one other = (one.0, calm_append first rest one.1 other)

calm_grants : (resource : Resource) (s later : LockState) (grants : List Event) → GrantedOn resource s grants later → AllByRecursion IsCalm grants
calm_grants resource _ _ _ (ended s later grants none same empty) = rw empty tt
calm_grants resource _ _ _ (granted s later grants rest r level next waits is more) = rw is (refl, calm_grants resource _ later rest more)

calm_are : (resources : List Resource) (s : LockState) (grants : List Event) → AreGrants resources s grants → AllByRecursion IsCalm grants
calm_are [] s grants are = rw are tt
calm_are (resource ∷ others) s grants (first, rest, later, split, on, more) = rw split (calm_append first rest (calm_grants resource s later first on) (calm_are others later rest more))

-- What a step adds of which nothing is a write, and its answer, which is no failed write.
pub record AddsCalm (between after : Recording) (answer : Answer) : Type 0 where
  pub events : List Event
  pub adds : Adds between after events
  pub calm : AllByRecursion IsCalm events
  pub faultless : is_write_fault answer ≡ false

abbrev pub is_write_ask : Ask → Bool
is_write_ask (ask.Write page cause) = true
is_write_ask _ = false

module _ (between after : Recording) (who : ℕ) (answer : Answer) where
  one : (own : Act) → is_write own ≡ false → Adds between after (by who own ∷ []) → is_write_fault answer ≡ false → AddsCalm between after answer
  one own calm adds faultless = record { events = by who own ∷ []; adds = adds; calm = (calm, tt); faultless = faultless }

  with_grants : (own : Act) (resources : List Resource) → is_write own ≡ false → AddsWithGrants between after (by who own) resources → is_write_fault answer ≡ false → AddsCalm between after answer
  with_grants own resources calm more faultless =
      record { events = by who own ∷ more.grants; adds = more.adds; calm = (calm, calm_are resources (locks_step (locks_in between) who own) more.grants more.are); faultless = faultless }

  asks : (resource : Resource) (level : Level) (wait : Bool) (word : ℕ) (told : Asked) → AskComesTo between after who resource level wait word answer told → AddsCalm between after answer
  asks resource level wait word asked.Granted comes =
      record { events = by who (act.Ask resource level wait word) ∷ by who (act.Grant resource level) ∷ []; adds = comes.1; calm = (refl, (refl, tt)); faultless = rw comes.0 refl }
  asks resource level wait word asked.Queued comes =
      one (act.Ask resource level wait word) refl comes.1 (rw comes.0 (waits_write_none (circle_from (after_ask (locks_in between) who resource level word asked.Queued) who)))
  asks resource level wait word (asked.Busy holder held) comes = one (act.Ask resource level wait word) refl comes.1 (rw comes.0 refl)
  asks resource level wait word (asked.Room used) comes = one (act.Ask resource level wait word) refl comes.1 (rw comes.0 refl)
  asks resource level wait word (asked.Dead dead) comes = with_grants (act.Reap dead (ask.Lock resource level wait word)) _ refl comes.adds (rw comes.answered refl)

  looks : (seen : Looked) → LookComesTo between after who answer seen → AddsCalm between after answer
  looks looked.Granted comes = one act.Look refl comes.1 (rw comes.0 refl)
  looks (looked.NotYet holder) comes = one act.Look refl comes.1 (rw comes.0 refl)
  looks (looked.Dead dead) comes = with_grants (act.Reap dead ask.Look) _ refl comes.adds (rw comes.answered refl)

  pub calm_step : (asked : Ask) → is_write_ask asked ≡ false → StepComesTo between after who answer asked → AddsCalm between after answer
  calm_step (ask.Enter buffers name) other comes = one (act.Enter buffers name) refl comes.1 (rw comes.0 refl)
  calm_step ask.Leave other comes = one act.Leave refl comes.1 (rw comes.0 refl)
  calm_step (ask.Lock resource level wait word) other comes = asks resource level wait word (answer_to_ask (locks_in between) who resource level wait) comes
  calm_step ask.Look other comes = looks (answer_to_look (locks_in between) who) comes
  calm_step ask.Withdraw other comes = one act.Withdraw refl comes.1 (rw comes.0 (withdraws_write_none (wait_of (locks_in between) who)))
  calm_step (ask.Lower resource level) other comes = with_grants (act.Lower resource level) (resource ∷ []) refl comes.1 (rw comes.0 refl)
  calm_step (ask.Read page) other (fault, length, is, adds) = one (act.Read page fault) refl adds (rw is (reads_write_none fault length))
  calm_step (ask.Write page cause) other comes = absurd cc
  calm_step (ask.Poll above) other comes = one (act.Poll above) refl comes.1 (polled answer comes.0) where
    polled : (a : Answer) → AnswersPoll between who above a → is_write_fault a ≡ false
    polled answers.WriteFault says = absurd says
    polled _ says = refl
  calm_step ask.Least other comes = one act.Least refl comes.1 (rw comes.0 refl)
  calm_step (ask.Note reply) other comes = one (act.Note reply) refl comes.1 (rw comes.0 refl)
