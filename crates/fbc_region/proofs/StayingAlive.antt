-- Who is alive stays so through a step by which nobody goes and no write fails.
use Rattle.std.proofs.Common.{◌≡◌, ◌∙◌, ◌≢◌, ℕ, Bool, true, false, ◌==◌, List, [], ◌∷◌, ◌++◌, refl}
use Rattle.std.specs.List.{AllByRecursion}
use Rattle.fbc_levels.specs.declared.levels.Level.{Level}
use Rattle.fbc_levels.specs.declared.resources.Resource.{Resource}
use Rattle.fbc_levels.specs.LockState.{LockState}
use Rattle.fbc_lock_table.specs.declared.answers.Asked.{Asked}
use Rattle.fbc_lock_table.specs.declared.answers.Asked.TheVariants as asked
use Rattle.fbc_lock_table.specs.declared.answers.Looked.{Looked}
use Rattle.fbc_lock_table.specs.declared.answers.Looked.TheVariants as looked
use Rattle.fbc_lock_table.specs.Answers.{answer_to_ask, answer_to_look}
use Rattle.fbc_world.specs.declared.answers.Answer.{Answer}
use Rattle.fbc_world.specs.declared.answers.Answer.TheVariants as answers
use Rattle.fbc_world.specs.declared.asks.Ask.{Ask}
use Rattle.fbc_world.specs.declared.asks.Ask.TheVariants as ask
use Rattle.fbc_world.specs.declared.events.Act.{Act}
use Rattle.fbc_world.specs.declared.events.Act.TheVariants as act
use Rattle.fbc_world.specs.declared.events.Event.{Event}
use Rattle.fbc_world.specs.declared.events.LocalEvent.{LocalEvent}
use Rattle.fbc_world.specs.History.{History, Recording, recorded}
use Rattle.fbc_world.specs.Locks.{locks_step}
use Rattle.fbc_world.specs.Owners.{alive_step, is_alive}
use Rattle.fbc_region.specs.Adding.{Adds, by}
use Rattle.fbc_region.specs.Answering.{AskComesTo, LookComesTo}
use Rattle.fbc_region.specs.Granting.{AddsWithGrants, AreGrants, GrantedOn, ended, granted}
use Rattle.fbc_region.specs.Shared.{locks_in}
use Rattle.fbc_region.specs.Stepping.{Performs, StepComesTo, answers_write}
use Rattle.fbc_region.proofs.Grown.{lengthened, recorded_adds}
use Rattle.fbc_region.proofs.Stable.{leaves}

-- Whether its owner is alive no more.
abbrev pub is_end : Act → Bool
is_end act.Leave = true
is_end act.Die = true
is_end (act.Write page cause failed) = failed
is_end _ = false

abbrev pub EndsNobody : Event → Type 0
EndsNobody event = is_end event.act ≡ false

alive_acted : (own : Act) → is_end own ≡ false → alive_step true own ≡ true
alive_acted act.Leave none = absurd cc
alive_acted act.Die none = absurd cc
alive_acted (act.Write page cause true) none = absurd cc
alive_acted (act.Write page cause false) none = refl
alive_acted _ none = refl

alive_lengthened : (h : History) (events : List Event) → AllByRecursion EndsNobody events → (owner : ℕ) → is_alive h owner ≡ true → is_alive (lengthened h events) owner ≡ true
alive_lengthened h [] none owner alive = alive
alive_lengthened h (event ∷ events) none owner alive = alive_lengthened (record { event = event; landed = false } ∷ h) events none.1 owner (go (event.actor == owner) refl) where
  go : (b : Bool) → event.actor == owner ≡ b → is_alive (record { event = event; landed = false } ∷ h) owner ≡ true
  go true is = rw (is, alive) (alive_acted event.act none.0)
  go false is = rw is alive

ends_append : (first rest : List Event) → AllByRecursion EndsNobody first → AllByRecursion EndsNobody rest → AllByRecursion EndsNobody (first ++ rest)
ends_append [] rest one other = other
ends_append (event ∷ first) rest one other = (one.0, ends_append first rest one.1 other)

ends_grants : (resource : Resource) (s later : LockState) (grants : List Event) → GrantedOn resource s grants later → AllByRecursion EndsNobody grants
ends_grants resource _ _ _ (ended s later grants none same empty) = rw empty tt
ends_grants resource _ _ _ (granted s later grants rest r level next waits is more) = rw is (refl, ends_grants resource _ later rest more)

ends_are : (resources : List Resource) (s : LockState) (grants : List Event) → AreGrants resources s grants → AllByRecursion EndsNobody grants
ends_are [] s grants are = rw are tt
ends_are (resource ∷ others) s grants (first, rest, later, split, on, more) = rw split (ends_append first rest (ends_grants resource s later first on) (ends_are others later rest more))

module _ (between after : Recording) (who : ℕ) (answer : Answer) (owner : ℕ) (alive : is_alive (recorded between) owner ≡ true) where
  abbrev StaysAlive : Type 0
  StaysAlive = is_alive (recorded after) owner ≡ true

  all : (events : List Event) → Adds between after events → AllByRecursion EndsNobody events → StaysAlive
  all events adds none = rw (recorded_adds between after events adds.longer) (alive_lengthened (recorded between) events none owner alive)

  one : (own : Act) → is_end own ≡ false → Adds between after (by who own ∷ []) → StaysAlive
  one own none adds = all (by who own ∷ []) adds (none, tt)

  with_grants : (own : Act) (resources : List Resource) → is_end own ≡ false → AddsWithGrants between after (by who own) resources → StaysAlive
  with_grants own resources none more = all (by who own ∷ more.grants) more.adds (none, ends_are resources (locks_step (locks_in between) who own) more.grants more.are)

  asks : (resource : Resource) (level : Level) (wait : Bool) (word : ℕ) (told : Asked) → AskComesTo between after who resource level wait word answer told → StaysAlive
  asks resource level wait word asked.Granted comes =
      all (by who (act.Ask resource level wait word) ∷ by who (act.Grant resource level) ∷ []) comes.1 (refl, (refl, tt))
  asks resource level wait word (asked.Dead dead) comes = with_grants (act.Reap dead (ask.Lock resource level wait word)) _ refl comes.adds
  asks resource level wait word asked.Queued comes = one (act.Ask resource level wait word) refl comes.1
  asks resource level wait word (asked.Busy holder held) comes = one (act.Ask resource level wait word) refl comes.1
  asks resource level wait word (asked.Room used) comes = one (act.Ask resource level wait word) refl comes.1

  looks : (seen : Looked) → LookComesTo between after who answer seen → StaysAlive
  looks looked.Granted comes = one act.Look refl comes.1
  looks (looked.NotYet holder) comes = one act.Look refl comes.1
  looks (looked.Dead dead) comes = with_grants (act.Reap dead ask.Look) _ refl comes.adds

  writes : (failed : Bool) → answer ≡ answers_write failed → answer ≢ answers.WriteFault → failed ≡ false
  writes true is faultless = absurd (faultless is)
  writes false is faultless = refl

  alive_step_on : (asked : Ask) → StepComesTo between after who answer asked → asked ≢ ask.Leave → answer ≢ answers.WriteFault → StaysAlive
  alive_step_on (ask.Enter buffers name) comes stays faultless = one (act.Enter buffers name) refl comes.1
  alive_step_on ask.Leave comes stays faultless = absurd (stays refl)
  alive_step_on (ask.Lock resource level wait word) comes stays faultless = asks resource level wait word (answer_to_ask (locks_in between) who resource level wait) comes
  alive_step_on ask.Look comes stays faultless = looks (answer_to_look (locks_in between) who) comes
  alive_step_on ask.Withdraw comes stays faultless = one act.Withdraw refl comes.1
  alive_step_on (ask.Lower resource level) comes stays faultless = with_grants (act.Lower resource level) (resource ∷ []) refl comes.1
  alive_step_on (ask.Read page) (fault, length, is, adds) stays faultless = one (act.Read page fault) refl adds
  alive_step_on (ask.Write page cause) (failed, is, adds) stays faultless = one (act.Write page cause failed) (writes failed is faultless) adds
  alive_step_on (ask.Poll above) comes stays faultless = one (act.Poll above) refl comes.1
  alive_step_on ask.Least comes stays faultless = one act.Least refl comes.1
  alive_step_on (ask.Note reply) comes stays faultless = one (act.Note reply) refl comes.1

pub alive_performed : (before after : Recording) (who : ℕ) (events : List LocalEvent) (answer : Answer) (asked : Ask) → Performs before after who events answer asked
    → asked ≢ ask.Leave → answer ≢ answers.WriteFault → (owner : ℕ) → is_alive (recorded before) owner ≡ true → is_alive (recorded after) owner ≡ true
alive_performed before after who events answer asked done stays faultless owner alive =
    alive_step_on done.between after who answer owner ((leaves before done.between who events done.local).same.alive_is owner ∙ alive) asked done.step stays faultless
