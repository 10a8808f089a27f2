-- What a step leaves of the requests in a journal.
use Rattle.std.proofs.Common.{◌≡◌, ◌∙◌, ap, ℕ, Bool, false, List, [], ◌∷◌, ◌++◌, Option, Some, None, append-nil, sym, subst, refl}
use Rattle.std.specs.List.{AllByRecursion}
use Rattle.fbc_levels.specs.declared.levels.Level.{Level}
use Rattle.fbc_levels.specs.declared.levels.Level.TheVariants.{Free}
use Rattle.fbc_levels.specs.declared.resources.Resource.{Resource}
use Rattle.fbc_levels.specs.LockState.{LockState, wait_of}
use Rattle.fbc_lock_table.specs.declared.answers.Asked.{Asked}
use Rattle.fbc_lock_table.specs.declared.answers.Asked.TheVariants as asked
use Rattle.fbc_lock_table.specs.declared.answers.Looked.{Looked}
use Rattle.fbc_lock_table.specs.declared.answers.Looked.TheVariants as looked
use Rattle.fbc_lock_table.specs.Answers.{answer_to_ask, answer_to_look}
use Rattle.fbc_lock_table.specs.Effects.{after_ask, after_grant, entered, granting}
use Rattle.fbc_owner_queues.specs.Grants.{is_by, is_grantable}
use Rattle.fbc_world.specs.declared.answers.Answer.{Answer}
use Rattle.fbc_world.specs.declared.answers.Answer.TheVariants as answers
use Rattle.fbc_world.specs.declared.asks.Ask.TheVariants as ask
use Rattle.fbc_world.specs.declared.events.Act.TheVariants as act
use Rattle.fbc_world.specs.declared.events.Event.{Event}
use Rattle.fbc_world.specs.declared.events.LocalEvent.{LocalEvent}
use Rattle.fbc_levels.specs.Resources.{page_resource}
use Rattle.fbc_world.specs.History.{History, Recording, happens, recorded}
use Rattle.fbc_world.specs.Locks.{granted_to, locks_of, with_grant}
use Rattle.fbc_world.specs.Locks as locks
use Rattle.fbc_region.specs.Adding.{by}
use Rattle.fbc_region.specs.Answering.{AskComesTo, LookComesTo, answer_to_wait}
use Rattle.fbc_region.specs.Granting.{AddsWithGrants, GrantedOn, ended, granted}
use Rattle.fbc_region.specs.Shared.{locks_in}
use Rattle.fbc_region.specs.Stepping.{Performs}
use Rattle.fbc_region.proofs.Asking.{granted_at_once}
use Rattle.fbc_region.proofs.Grown.{lengthened, recorded_adds}
use Rattle.fbc_region.proofs.Stable.{leaves}
use Rattle.fbc_step_benchmarks.specs.Steps.{IsOthers, IsOthersOrPage}
use Rattle.fbc_step_benchmarks.proofs.Requests.{all_entered, all_map, found_is, others_without}

waits_grant_none : (circle : Option (List ℕ)) → answer_to_wait circle ≡ answers.Granted → ⊥
waits_grant_none None is = absurd cc
waits_grant_none (Some circle) is = absurd cc

module _ (before after : Recording) (who : ℕ) (events : List LocalEvent) (answer : Answer) where
  -- An ask that is granted at once.
  module _ (resource : Resource) (level : Level) (wait : Bool) (word : ℕ) (idle : wait_of (locks_in before) who ≡ None) where
    pub locks_asked : Performs before after who events answer (ask.Lock resource level wait word) → answer ≡ answers.Granted
        → locks_in after ≡ after_ask (locks_in before) who resource level word asked.Granted
    locks_asked done is =
        subst (λ s. locks_in after ≡ after_ask s who resource level word asked.Granted) same (go (answer_to_ask (locks_in done.between) who resource level wait) refl done.step) where
          same : locks_in done.between ≡ locks_in before
          same = (leaves before done.between who events done.local).locks

          go : (told : Asked) → answer_to_ask (locks_in done.between) who resource level wait ≡ told → AskComesTo done.between after who resource level wait word answer told
              → locks_in after ≡ after_ask (locks_in done.between) who resource level word asked.Granted
          go asked.Granted told comes =
              ap locks_of (recorded_adds done.between after (by who (act.Ask resource level wait word) ∷ by who (act.Grant resource level) ∷ []) comes.1.longer)
              ∙ ap (λ t. granted_to (locks.asked (locks_in done.between) who resource level word t) who resource level) told
              ∙ sym (granted_at_once who resource level word (locks_in done.between) (ap (λ s. wait_of s who) same ∙ idle))
          go asked.Queued told comes = absurd (waits_grant_none _ (sym comes.0 ∙ is))
          go (asked.Busy holder held) told comes = absurd (let clash : answers.Busy holder held ≡ answers.Granted = sym comes.0 ∙ is in cc)
          go (asked.Room used) told comes = absurd (let clash : answers.Room used ≡ answers.Granted = sym comes.0 ∙ is in cc)
          go (asked.Dead dead) told comes = absurd (let clash : answers.Reaped dead ≡ answers.Granted = sym comes.answered ∙ is in cc)

  -- A look of one that waits no more.
  pub locks_looked : Performs before after who events answer ask.Look → answer ≡ answers.Granted → locks_in after ≡ locks_in before
  locks_looked done is = go (answer_to_look (locks_in done.between) who) done.step ∙ (leaves before done.between who events done.local).locks where
    go : (seen : Looked) → LookComesTo done.between after who answer seen → locks_in after ≡ locks_in done.between
    go looked.Granted comes = ap locks_of (recorded_adds done.between after (by who act.Look ∷ []) comes.1.longer)
    go (looked.NotYet holder) comes = absurd (let clash : answers.NotYet holder ≡ answers.Granted = sym comes.0 ∙ is in cc)
    go (looked.Dead dead) comes = absurd (let clash : answers.Reaped dead ≡ answers.Granted = sym comes.answered ∙ is in cc)

-- Grants to others leave the first owner without requests.
others_granted : (resource : Resource) (s later : LockState) (grants : List Event) → GrantedOn resource s grants later → AllByRecursion IsOthers s.requests
    → (h : History) → AllByRecursion IsOthers (locks_of h).requests → AllByRecursion IsOthers (locks_of (lengthened h grants)).requests
others_granted resource _ _ _ (ended s later grants none is empty) others h all = rw empty all
others_granted resource _ _ _ (granted s later grants rest r level next waits is more) others h all =
    let other : is_by 1 r ≡ false = found_is IsOthers (is_grantable s resource) s.requests r others next in
    rw is (others_granted resource (after_grant s r.owner r.resource) later rest more (all_map IsOthers IsOthers (granting r.owner r.resource) (λ x it. it) s.requests others)
    (happens r.owner (act.Grant resource level) false ∷ h)
    (all_map IsOthers IsOthers (with_grant r.owner resource level) (λ x it. it) (entered (locks_of h).requests r.owner resource 0) (all_entered IsOthers (locks_of h).requests r.owner resource 0 all other)))

-- A page that is given back.
pub others_lowered : (before after : Recording) (events : List LocalEvent) (answer : Answer) → Performs before after 1 events answer (ask.Lower (page_resource 0) Free)
    → AllByRecursion IsOthersOrPage (locks_in before).requests → AllByRecursion IsOthers (locks_in after).requests
others_lowered before after events answer done only = go done.step.1 where
  s : LockState
  s = locks_in done.between

  here : AllByRecursion IsOthersOrPage s.requests
  here = rw (leaves before done.between 1 events done.local).locks only

  go : AddsWithGrants done.between after (by 1 (act.Lower (page_resource 0) Free)) (page_resource 0 ∷ []) → AllByRecursion IsOthers (locks_in after).requests
  go added = grants added.are where
    grants : (first : List Event) × (rest : List Event) × (later : LockState) × (added.grants ≡ first ++ rest) × GrantedOn (page_resource 0) (locks_of (happens 1 (act.Lower (page_resource 0) Free) false ∷ recorded done.between)) first later × (rest ≡ [])
        → AllByRecursion IsOthers (locks_in after).requests
    grants (first, rest, later, split, on, none) =
        let all : added.grants ≡ first = split ∙ ap (λ es. first ++ es) none ∙ append-nil first in
        let free : AllByRecursion IsOthers (locks_of (happens 1 (act.Lower (page_resource 0) Free) false ∷ recorded done.between)).requests = others_without s.requests here in
        rw (recorded_adds done.between after (by 1 (act.Lower (page_resource 0) Free) ∷ added.grants) added.adds.longer, all)
        (others_granted (page_resource 0) _ later first on free (happens 1 (act.Lower (page_resource 0) Free) false ∷ recorded done.between) free)
