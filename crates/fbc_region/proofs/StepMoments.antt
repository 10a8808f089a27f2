-- What a step adds to a journal, as moments behind its history.
use Rattle.std.proofs.Common.{◌≡◌, ◌∙◌, ap, ℕ, Bool, true, false, List, [], ◌∷◌, ◌++◌, Option, Some, None, append-nil, sym, subst, refl}
use Rattle.std.specs.List.{AllByRecursion}
use Rattle.fbc_levels.specs.declared.levels.Level.{Level}
use Rattle.fbc_levels.specs.declared.resources.Request.{Request}
use Rattle.fbc_levels.specs.declared.resources.Resource.{Resource}
use Rattle.fbc_levels.specs.declared.resources.Series.TheVariants as series
use Rattle.fbc_levels.specs.LockState.{wait_of}
use Rattle.fbc_lock_table.specs.declared.answers.Asked.{Asked}
use Rattle.fbc_lock_table.specs.declared.answers.Asked.TheVariants as asked
use Rattle.fbc_lock_table.specs.declared.answers.Looked.{Looked}
use Rattle.fbc_lock_table.specs.declared.answers.Looked.TheVariants as looked
use Rattle.fbc_lock_table.specs.Answers.{answer_to_ask, answer_to_look, least_data_of}
use Rattle.fbc_lock_table.specs.Effects.{after_ask}
use Rattle.fbc_owner_queues.specs.Circles.{circle_from}
use Rattle.fbc_world.specs.declared.answers.Answer.{Answer}
use Rattle.fbc_world.specs.declared.answers.Answer.TheVariants as answers
use Rattle.fbc_world.specs.declared.asks.Ask.{Ask}
use Rattle.fbc_world.specs.declared.asks.Ask.TheVariants as ask
use Rattle.fbc_world.specs.declared.asks.Cause.{Cause}
use Rattle.fbc_world.specs.declared.events.Act.TheVariants as act
use Rattle.fbc_world.specs.declared.events.Event.{Event}
use Rattle.fbc_world.specs.declared.events.LocalEvent.{LocalEvent}
use Rattle.fbc_world.specs.History.{History, Recording, happens}
use Rattle.fbc_world.specs.Locks.{locks_of, locks_step}
use Rattle.fbc_region.specs.Adding.{Adds, by}
use Rattle.fbc_region.specs.Answering.{AskComesTo, IsReaping, LookComesTo, answer_to_wait, answer_to_withdrawal}
use Rattle.fbc_region.specs.Granting.{AddsWithGrants, AreGrants, resources_of}
use Rattle.fbc_region.specs.Lawful.{AreLandings}
use Rattle.fbc_region.specs.Shared.{history_of, is_failed_write, locks_in}
use Rattle.fbc_region.specs.Stepping.{AnswersPoll, Performs, StepComesTo, answers_read, answers_write}
use Rattle.fbc_region.specs.Steps.{FollowAct, IsAnswered, IsQueued, IsStepOf, Tells, act_of, with_events}
use Rattle.fbc_region.proofs.Calm.{is_write_fault, no_landing}
use Rattle.fbc_region.proofs.Grown.{lengthened}
use Rattle.fbc_region.proofs.Landed.{IsSteady, are_steady, history_adds, history_failed, locks_same}
use Rattle.fbc_region.proofs.StepsLegal.{past_locals}

lengthened_is : (past : History) (events : List Event) → lengthened past events ≡ with_events past events
lengthened_is past [] = refl
lengthened_is past (event ∷ events) = lengthened_is (record { event = event; landed = false } ∷ past) events

module _ (between after : Recording) (landings new : List Bool) (who : ℕ) (answer : Answer) (are : AreLandings answer new) where
  abbrev h : History
  h = history_of between landings

  abbrev Result : Ask → Type 0
  Result asked = IsAnswered h who answer asked (history_of after (landings ++ new))

  locks_here : locks_in between ≡ locks_of h
  locks_here = locks_same between landings

  -- No write failed.
  calm : (asked : Ask) (told : Answer) (grants : List Event) → answer ≡ told → is_write_fault told ≡ false → is_failed_write (act_of told asked) ≡ false
      → Tells (locks_of h) who told asked → AllByRecursion IsSteady grants → FollowAct (locks_of h) who told (act_of told asked) grants → Adds between after (by who (act_of told asked) ∷ grants) → Result asked
  calm asked told grants is none steady tells others follow adds =
      let empty : new ≡ [] = no_landing answer new (ap is_write_fault is ∙ none) are in
      subst (λ a. IsAnswered h who a asked (history_of after (landings ++ new))) (sym is) (record {
        tells = tells;
        landed = false;
        lands = λ no. cc;
        grants = grants;
        follow = follow;
        later_is = ap (λ ls. history_of after (landings ++ ls)) empty ∙ ap (history_of after) (append-nil landings)
            ∙ history_adds between after (by who (act_of told asked) ∷ grants) landings adds.longer (steady, others)
            ∙ lengthened_is (happens who (act_of told asked) false ∷ h) grants;
      })

  alone : (asked : Ask) (told : Answer) → answer ≡ told → is_write_fault told ≡ false → is_failed_write (act_of told asked) ≡ false → Tells (locks_of h) who told asked
      → FollowAct (locks_of h) who told (act_of told asked) [] → Adds between after (by who (act_of told asked) ∷ []) → Result asked
  alone asked told is none steady tells follow adds = calm asked told [] is none steady tells tt follow adds

  reaping : (for : Ask) (dead : ℕ) → act_of (answers.Reaped dead) for ≡ act.Reap dead for → Tells (locks_of h) who (answers.Reaped dead) for → IsReaping between after who dead for answer → Result for
  reaping for dead own tells comes =
      let more : AddsWithGrants between after (by who (act.Reap dead for)) (resources_of (locks_in between) dead) = comes.adds in
      calm for (answers.Reaped dead) more.grants comes.answered refl (rw own refl) tells
      (are_steady (resources_of (locks_in between) dead) (locks_step (locks_in between) who (act.Reap dead for)) more.grants more.are)
      (rw own (subst (λ s. AreGrants (resources_of s dead) (locks_step s who (act.Reap dead for)) more.grants) locks_here more.are))
      (rw own more.adds)

  module _ (resource : Resource) (level : Level) (wait : Bool) (word : ℕ) where
    abbrev lock : Ask
    lock = ask.Lock resource level wait word

    queued : (circle : Option (List ℕ)) → answer ≡ answer_to_wait circle → IsQueued (locks_of h) who resource level wait word circle → Adds between after (by who (act.Ask resource level wait word) ∷ []) → Result lock
    queued None is tells adds = alone lock answers.Queued is refl refl tells refl adds
    queued (Some circle) is tells adds = alone lock (answers.Deadlock circle) is refl refl tells refl adds

    asks : (told : Asked) → answer_to_ask (locks_of h) who resource level wait ≡ told → AskComesTo between after who resource level wait word answer told → Result lock
    asks asked.Granted is comes = calm lock answers.Granted (by who (act.Grant resource level) ∷ []) comes.0 refl refl is (refl, tt) refl comes.1
    asks asked.Queued is comes =
        queued (circle_from (after_ask (locks_of h) who resource level word asked.Queued) who)
        (comes.0 ∙ ap (λ s. answer_to_wait (circle_from (after_ask s who resource level word asked.Queued) who)) locks_here) (record { queued = is; closes = refl }) comes.1
    asks (asked.Busy holder held) is comes = alone lock (answers.Busy holder held) comes.0 refl refl is refl comes.1
    asks (asked.Room used) is comes = alone lock (answers.Room used) comes.0 refl refl is refl comes.1
    asks (asked.Dead dead) is comes = reaping lock dead refl is comes

  looks : (seen : Looked) → answer_to_look (locks_of h) who ≡ seen → LookComesTo between after who answer seen → Result ask.Look
  looks looked.Granted is comes = alone ask.Look answers.Granted comes.0 refl refl is refl comes.1
  looks (looked.NotYet holder) is comes = alone ask.Look (answers.NotYet holder) comes.0 refl refl is refl comes.1
  looks (looked.Dead dead) is comes = reaping ask.Look dead refl is comes

  withdraws : (wait : Option Request) → wait_of (locks_of h) who ≡ wait → answer ≡ answer_to_withdrawal wait → Adds between after (by who act.Withdraw ∷ []) → Result ask.Withdraw
  withdraws None is told adds = alone ask.Withdraw answers.Granted told refl refl is refl adds
  withdraws (Some wait) is told adds = alone ask.Withdraw answers.Noted told refl refl (wait, is) refl adds

  reads : (page : ℕ) (fault : Bool) (length : ℕ) → answer ≡ answers_read fault length → Adds between after (by who (act.Read page fault) ∷ []) → Result (ask.Read page)
  reads page true length is adds = alone (ask.Read page) answers.ReadFault is refl refl (true, length, refl) refl adds
  reads page false length is adds = alone (ask.Read page) (answers.PageIs length) is refl refl (false, length, refl) refl adds

  failed_landing : answer ≡ answers.WriteFault → (landed : Bool) × (new ≡ landed ∷ [])
  failed_landing is = rw is at are

  writes : (page : ℕ) (cause : Cause) (failed : Bool) → answer ≡ answers_write failed → Adds between after (by who (act.Write page cause failed) ∷ []) → Result (ask.Write page cause)
  writes page cause true is adds =
      let landing : (landed : Bool) × (new ≡ landed ∷ []) = failed_landing is in
      subst (λ a. IsAnswered h who a (ask.Write page cause) (history_of after (landings ++ new))) (sym is) (record {
        tells = (true, refl);
        landed = landing.0;
        lands = λ did. refl;
        grants = [];
        follow = refl;
        later_is = ap (λ ls. history_of after (landings ++ ls)) landing.1 ∙ history_failed between after (by who (act.Write page cause true)) landings landing.0 adds.longer refl;
      })
  writes page cause false is adds = alone (ask.Write page cause) answers.Written is refl refl (false, refl) refl adds

  polls : (above : Option ℕ) (told : Answer) → answer ≡ told → AnswersPoll between who above told → Adds between after (by who (act.Poll above) ∷ []) → Result (ask.Poll above)
  polls above (answers.Callback callback) is says adds = alone (ask.Poll above) (answers.Callback callback) is refl refl (rw (← locks_here) says) refl adds
  polls above answers.NoCallback is says adds = alone (ask.Poll above) answers.NoCallback is refl refl (rw (← locks_here) says) refl adds
  polls above _ is says adds = absurd says

  lowers : (resource : Resource) (level : Level) → answer ≡ answers.Noted → AddsWithGrants between after (by who (act.Lower resource level)) (resource ∷ []) → Result (ask.Lower resource level)
  lowers resource level is more =
      calm (ask.Lower resource level) answers.Noted more.grants is refl refl refl
      (are_steady (resource ∷ []) (locks_step (locks_in between) who (act.Lower resource level)) more.grants more.are)
      (subst (λ s. AreGrants (resource ∷ []) (locks_step s who (act.Lower resource level)) more.grants) locks_here more.are) more.adds

  answered : (asked : Ask) → StepComesTo between after who answer asked → Result asked
  answered (ask.Enter buffers name) comes = alone (ask.Enter buffers name) answers.Noted comes.0 refl refl refl refl comes.1
  answered ask.Leave comes = alone ask.Leave answers.Noted comes.0 refl refl refl refl comes.1
  answered (ask.Lock resource level wait word) comes =
      asks resource level wait word (answer_to_ask (locks_of h) who resource level wait) refl
      (subst (λ s. AskComesTo between after who resource level wait word answer (answer_to_ask s who resource level wait)) locks_here comes)
  answered ask.Look comes = looks (answer_to_look (locks_of h) who) refl (subst (λ s. LookComesTo between after who answer (answer_to_look s who)) locks_here comes)
  answered ask.Withdraw comes = withdraws (wait_of (locks_of h) who) refl (comes.0 ∙ ap (λ s. answer_to_withdrawal (wait_of s who)) locks_here) comes.1
  answered (ask.Lower resource level) comes = lowers resource level comes.0 comes.1
  answered (ask.Read page) (fault, length, is, adds) = reads page fault length is adds
  answered (ask.Write page cause) (failed, is, adds) = writes page cause failed is adds
  answered (ask.Poll above) comes = polls above answer refl comes.0 comes.1
  answered ask.Least comes =
      alone ask.Least (answers.Least (least_data_of (locks_of h) series.Transaction)) (comes.0 ∙ ap (λ s. answers.Least (least_data_of s series.Transaction)) locks_here) refl refl refl refl comes.1
  answered (ask.Note reply) comes = alone (ask.Note reply) answers.Noted comes.0 refl refl refl refl comes.1

-- A whole step.
pub step_performed : (before after : Recording) (landings new : List Bool) (who : ℕ) (events : List LocalEvent) (answer : Answer) (asked : Ask) → Performs before after who events answer asked → AreLandings answer new
    → IsStepOf (history_of before landings) who events asked answer (history_of after (landings ++ new))
step_performed before after landings new who events answer asked done are =
    subst (λ g. IsAnswered g who answer asked (history_of after (landings ++ new))) (past_locals before done.between landings who events done.local)
    (answered done.between after landings new who answer are asked done.step)
