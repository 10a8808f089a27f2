-- A step after a legal history at rest leads to one.
use Rattle.std.proofs.Common.{◌≡◌, ◌∙◌, ap, ℕ, Bool, true, false, List, [], ◌∷◌, ◌++◌, Option, append-nil, sym, subst, refl}
use Rattle.std.specs.List.{AllByRecursion}
use Rattle.fbc_kinds.specs.View.{View}
use Rattle.fbc_levels.specs.declared.levels.Level.{Level}
use Rattle.fbc_levels.specs.declared.resources.Resource.{Resource}
use Rattle.fbc_levels.specs.LockState.{wait_of}
use Rattle.fbc_lock_table.specs.declared.answers.Asked.{Asked}
use Rattle.fbc_lock_table.specs.declared.answers.Asked.TheVariants as asked
use Rattle.fbc_lock_table.specs.declared.answers.Looked.{Looked}
use Rattle.fbc_lock_table.specs.declared.answers.Looked.TheVariants as looked
use Rattle.fbc_lock_table.specs.Answers.{answer_to_ask, answer_to_look}
use Rattle.fbc_lock_table.specs.Effects.{after_ask}
use Rattle.fbc_owner_queues.specs.Circles.{circle_from}
use Rattle.fbc_legal.specs.Guards.{Guard, GuardOfAsk}
use Rattle.fbc_legal.specs.Scene.{Scene, scene_of}
use Rattle.fbc_world.specs.declared.answers.Answer.{Answer}
use Rattle.fbc_world.specs.declared.answers.Answer.TheVariants as answers
use Rattle.fbc_world.specs.declared.asks.Ask.{Ask}
use Rattle.fbc_world.specs.declared.asks.Ask.TheVariants as ask
use Rattle.fbc_world.specs.declared.events.Act.{Act}
use Rattle.fbc_world.specs.declared.events.Act.TheVariants as act
use Rattle.fbc_world.specs.declared.events.Event.{Event}
use Rattle.fbc_world.specs.declared.events.LocalEvent.{LocalEvent}
use Rattle.fbc_world.specs.History.{History, Recording, happens}
use Rattle.fbc_world.specs.Locks.{locks_of, locks_step}
use Rattle.fbc_world.proofs.WorldLaws.{IsReplayed-world}
use Rattle.fbc_region.specs.Adding.{Adds, by, local_events}
use Rattle.fbc_region.specs.Answering.{AskComesTo, IsReaping, LookComesTo}
use Rattle.fbc_region.specs.Granting.{AddsWithGrants}
use Rattle.fbc_region.specs.Lawful.{AreLandings, MeetsAsk, MeetsGuard, MeetsGuards, with_locals}
use Rattle.fbc_region.specs.Shared.{history_of, is_failed_write, locks_in}
use Rattle.fbc_region.specs.Stepping.{AnswersPoll, Performs, StepComesTo, answers_write}
use Rattle.fbc_region.proofs.Calm.{is_write_fault, no_landing, reads_write_none, waits_write_none, withdraws_write_none}
use Rattle.fbc_region.proofs.Ending.{Ends, ends_locals, ends_on, is_ask, rests_after, rests_refused}
use Rattle.fbc_region.proofs.FreeAsks.{begin_asked, ends_free}
use Rattle.fbc_region.proofs.FreshBegins.{fresh_ask}
use Rattle.fbc_region.proofs.Grown.{lengthened}
use Rattle.fbc_region.proofs.Landed.{IsSteady, are_steady, history_adds, history_failed, locals_lengthen, locals_steady, locks_same}
use Rattle.fbc_region.proofs.NextGrants.{are_end}
use Rattle.fbc_region.proofs.Reaps.{reap_asked, reap_looked}

module _ (between after : Recording) (file : View) (landings new : List Bool) (who : ℕ) (answer : Answer) (are : AreLandings answer new)
    (ends : Ends between.shape file (history_of between landings)) where
  abbrev h : History
  h = history_of between landings

  abbrev at : Scene
  at = scene_of between.shape file h

  abbrev Result : Type 0
  Result = Ends after.shape file (history_of after (landings ++ new))

  locks_here : locks_in between ≡ locks_of h
  locks_here = locks_same between landings

  ends_with : (events : List Event) → Adds between after events → AllByRecursion IsSteady events → is_write_fault answer ≡ false → Ends between.shape file (lengthened h events) → Result
  ends_with events adds steady none e =
      rw (adds.shape, no_landing answer new none are, append-nil landings, history_adds between after events landings adds.longer steady) e

  one : (own : Act) → is_failed_write own ≡ false → is_ask own ≡ false → MeetsGuard at who own → Adds between after (by who own ∷ []) → is_write_fault answer ≡ false → Result
  one own steady other meets adds none = ends_with (by who own ∷ []) adds (steady, tt) none (ends_on between.shape file h who own false ends meets (rests_after h who own false other))

  with_grants : (own : Act) (resources : List Resource) → is_failed_write own ≡ false → is_ask own ≡ false → MeetsGuard at who own → AddsWithGrants between after (by who own) resources → is_write_fault answer ≡ false → Result
  with_grants own resources steady other meets more none =
      ends_with (by who own ∷ more.grants) more.adds (steady, are_steady resources (locks_step (locks_in between) who own) more.grants more.are) none
      (are_end between.shape file resources (locks_step (locks_in between) who own) more.grants more.are (happens who own false ∷ h)
      (ends_on between.shape file h who own false ends meets (rests_after h who own false other)) (ap (λ s. locks_step s who own) locks_here))

  reaping : (dead : ℕ) (for : Ask) → MeetsGuard at who (act.Reap dead for) → IsReaping between after who dead for answer → Result
  reaping dead for meets comes = with_grants (act.Reap dead for) _ refl refl meets comes.adds (rw comes.answered refl)

  module _ (resource : Resource) (level : Level) (wait : Bool) (word : ℕ) (alive : at.world.is_alive who ≡ true) where
    refused : (told : Asked) → answer_to_ask (locks_of h) who resource level wait ≡ told → (told ≡ asked.Granted → ⊥) → Guard at who (act.Ask resource level wait word)
        → Adds between after (by who (act.Ask resource level wait word) ∷ []) → is_write_fault answer ≡ false → Result
    refused told is not_free g adds none =
        ends_with (by who (act.Ask resource level wait word) ∷ []) adds (refl, tt) none
        (ends_on between.shape file h who (act.Ask resource level wait word) false ends (record { alive = alive; guard = g })
        (rests_refused h who resource level wait word false (λ free. not_free (sym is ∙ free))))

    abbrev Owed : Type 0
    Owed = ((dead : ℕ) → ¬ (answer_to_ask at.world.locks who resource level wait ≡ asked.Dead dead)) → Guard at who (act.Ask resource level wait word)

    same_answer : answer_to_ask at.world.locks who resource level wait ≡ answer_to_ask (locks_of h) who resource level wait
    same_answer = ap (λ s. answer_to_ask s who resource level wait) (IsReplayed-world between.shape file h).locks_is

    met : Owed → (told : Asked) → answer_to_ask (locks_of h) who resource level wait ≡ told → ((dead : ℕ) → told ≡ asked.Dead dead → ⊥) → Guard at who (act.Ask resource level wait word)
    met owed told is lives = owed (λ dead buried. lives dead (sym is ∙ sym same_answer ∙ buried))

    asks : Owed → (told : Asked) → answer_to_ask (locks_of h) who resource level wait ≡ told → AskComesTo between after who resource level wait word answer told → Result
    asks owed asked.Granted is comes =
        let g : GuardOfAsk at who resource level wait word = met owed asked.Granted is (λ dead clash. cc) in
        ends_with (by who (act.Ask resource level wait word) ∷ by who (act.Grant resource level) ∷ []) comes.1 (refl, (refl, tt)) (rw comes.0 refl)
        (ends_free between.shape file h ends who resource level wait word alive g is
        (λ high. fresh_ask between.shape file h ends who resource level word alive high (begin_asked at who resource.series resource.key level word high g.asked)))
    asks owed asked.Queued is comes =
        refused asked.Queued is (λ clash. cc) (met owed asked.Queued is (λ dead clash. cc)) comes.1
        (rw comes.0 (waits_write_none (circle_from (after_ask (locks_in between) who resource level word asked.Queued) who)))
    asks owed (asked.Busy holder held) is comes = refused (asked.Busy holder held) is (λ clash. cc) (met owed (asked.Busy holder held) is (λ dead clash. cc)) comes.1 (rw comes.0 refl)
    asks owed (asked.Room used) is comes = refused (asked.Room used) is (λ clash. cc) (met owed (asked.Room used) is (λ dead clash. cc)) comes.1 (rw comes.0 refl)
    asks owed (asked.Dead dead) is comes =
        reaping dead (ask.Lock resource level wait word) (record { alive = alive; guard = reap_asked between.shape file h ends.legal who dead resource level wait word is }) comes

  looks : MeetsGuard at who act.Look → (seen : Looked) → answer_to_look (locks_of h) who ≡ seen → LookComesTo between after who answer seen → Result
  looks meets looked.Granted is comes = one act.Look refl refl meets comes.1 (rw comes.0 refl)
  looks meets (looked.NotYet holder) is comes = one act.Look refl refl meets comes.1 (rw comes.0 refl)
  looks meets (looked.Dead dead) is comes = reaping dead ask.Look (record { alive = meets.alive; guard = reap_looked between.shape file h ends.legal who dead is }) comes

  failed_landing : answer ≡ answers.WriteFault → (landed : Bool) × (new ≡ landed ∷ [])
  failed_landing is = rw is at are

  one_landed : (own : Act) (landed : Bool) → is_failed_write own ≡ true → is_ask own ≡ false → MeetsGuard at who own → Adds between after (by who own ∷ []) → new ≡ landed ∷ [] → Result
  one_landed own landed fails other meets adds is =
      rw (adds.shape, is, history_failed between after (by who own) landings landed adds.longer fails) (ends_on between.shape file h who own landed ends meets (rests_after h who own landed other))

  writes : (own : Bool → Act) → ((failed : Bool) → is_failed_write (own failed) ≡ failed) → ((failed : Bool) → is_ask (own failed) ≡ false) → ((failed : Bool) → MeetsGuard at who (own failed))
      → (failed : Bool) → answer ≡ answers_write failed → Adds between after (by who (own failed) ∷ []) → Result
  writes own fails other meets true is adds = let landing = failed_landing is in one_landed (own true) landing.0 (fails true) (other true) (meets true) adds landing.1
  writes own fails other meets false is adds = one (own false) (fails false) (other false) (meets false) adds (rw is refl)

  polls : (above : Option ℕ) → MeetsGuard at who (act.Poll above) → Adds between after (by who (act.Poll above) ∷ []) → is_write_fault answer ≡ false → Result
  polls above meets adds none = one (act.Poll above) refl refl meets adds none

  pub ends_step : (asked : Ask) → MeetsAsk at who asked → StepComesTo between after who answer asked → Result
  ends_step (ask.Enter buffers name) meets comes = one (act.Enter buffers name) refl refl meets comes.1 (rw comes.0 refl)
  ends_step ask.Leave meets comes = one act.Leave refl refl meets comes.1 (rw comes.0 refl)
  ends_step (ask.Lock resource level wait word) meets comes =
      asks resource level wait word meets.0 meets.1 (answer_to_ask (locks_of h) who resource level wait) refl
      (subst (λ s. AskComesTo between after who resource level wait word answer (answer_to_ask s who resource level wait)) locks_here comes)
  ends_step ask.Look meets comes =
      looks meets (answer_to_look (locks_of h) who) refl (subst (λ s. LookComesTo between after who answer (answer_to_look s who)) locks_here comes)
  ends_step ask.Withdraw meets comes = one act.Withdraw refl refl meets comes.1 (rw comes.0 (withdraws_write_none (wait_of (locks_in between) who)))
  ends_step (ask.Lower resource level) meets comes = with_grants (act.Lower resource level) (resource ∷ []) refl refl meets comes.1 (rw comes.0 refl)
  ends_step (ask.Read page) meets (fault, length, is, adds) = one (act.Read page fault) refl refl (meets fault) adds (rw is (reads_write_none fault length))
  ends_step (ask.Write page cause) meets (failed, is, adds) = writes (λ f. act.Write page cause f) (λ f. refl) (λ f. refl) meets failed is adds
  ends_step (ask.Poll above) meets comes = polls above meets comes.1 (polled answer comes.0) where
    polled : (a : Answer) → AnswersPoll between who above a → is_write_fault a ≡ false
    polled answers.WriteFault says = absurd says
    polled _ says = refl
  ends_step ask.Least meets comes = one act.Least refl refl meets comes.1 (rw comes.0 refl)
  ends_step (ask.Note reply) meets comes = one (act.Note reply) refl refl meets comes.1 (rw comes.0 refl)

-- The history after the local events of a step.
pub past_locals : (before between : Recording) (landings : List Bool) (who : ℕ) (events : List LocalEvent) → Adds before between (local_events who events)
    → history_of between landings ≡ with_locals (history_of before landings) who events
past_locals before between landings who events adds =
    history_adds before between (local_events who events) landings adds.longer (locals_steady who events) ∙ locals_lengthen (history_of before landings) who events

-- A whole step.
pub ends_performed : (before after : Recording) (file : View) (landings new : List Bool) (who : ℕ) (events : List LocalEvent) (answer : Answer) (asked : Ask) → Ends before.shape file (history_of before landings)
    → MeetsGuards before.shape file (history_of before landings) who events asked → Performs before after who events answer asked → AreLandings answer new
    → Ends after.shape file (history_of after (landings ++ new))
ends_performed before after file landings new who events answer asked ends meets done are =
    let past = past_locals before done.between landings who events done.local in
    ends_step done.between after file landings new who answer are (rw (done.local.shape, past) (ends_locals before.shape file (history_of before landings) who events ends meets.local)) asked
    (rw (done.local.shape, past) meets.own) done.step
