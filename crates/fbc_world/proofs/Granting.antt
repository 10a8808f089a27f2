-- What is granted by the list of requests goes as the granted levels do.
use Rattle.std.proofs.Common.{◌≡◌, ◌∙◌, ap, ℕ, Bool, true, false, not, if◌then◌else◌, [], ◌∷◌, is_some, refl}
use Rattle.std.specs.List.{filter}
use Rattle.fbc_levels.specs.declared.levels.Level.{Level}
use Rattle.fbc_levels.specs.declared.levels.Level.TheVariants.{Free}
use Rattle.fbc_levels.specs.declared.resources.Resource.{Resource}
use Rattle.fbc_levels.specs.LockState.{LockState, granted_of}
use Rattle.fbc_lock_table.specs.declared.answers.Asked.{Asked}
use Rattle.fbc_lock_table.specs.declared.answers.Asked.TheVariants.{Granted, Queued}
use Rattle.fbc_lock_table.specs.Answers.{answer_to_ask}
use Rattle.fbc_lock_table.specs.Effects.{after_ask, entered, is_bare_wait_of, of_dead, with_granted, with_waiting, without_wait, withdrawn}
use Rattle.fbc_owner_queues.specs.Circles.{circle_from}
use Rattle.fbc_world.specs.declared.events.Act.{Act}
use Rattle.fbc_world.specs.declared.events.Act.TheVariants.{Ask, Die, Grant, Lower, Opened, Reap, Withdraw, Write}
use Rattle.fbc_world.specs.History.{History}
use Rattle.fbc_world.specs.Locks.{asked, locks_of, locks_step, lowered_to, unless_circle, with_grant}
use Rattle.fbc_world.specs.Owners.{granted, granted_step}
use Rattle.fbc_world.proofs.Apart.{IsApart, apart-history, apart_queued, once}
use Rattle.fbc_world.proofs.Requests.{is_key, level-entered, level-map, level-set, level-without, level-without_bare, level-without_owner}

module _ (owner : ℕ) (resource : Resource) where
  queued : (s : LockState) (o : ℕ) (r : Resource) (level : Level) (word : ℕ) → granted_of (after_ask s o r level word Queued) owner resource ≡ granted_of s owner resource
  queued s o r level word =
      level-map owner resource (with_waiting o r level) (λ x. refl) (λ x. refl) (entered s.requests o r word) ∙ level-entered owner resource s.requests o r word

  withdrawal : (s : LockState) → IsApart s → (o : ℕ) → granted_of (withdrawn s o) owner resource ≡ granted_of s owner resource
  withdrawal s apart o =
      level-map owner resource (without_wait o) (λ x. refl) (λ x. refl) (filter (λ x. not (is_bare_wait_of o x)) s.requests)
      ∙ level-without_bare owner resource o s.requests (once owner resource s.requests apart)

  unless : (s : LockState) → IsApart s → (o : ℕ) → granted_of (unless_circle s o) owner resource ≡ granted_of s owner resource
  unless s apart o = go (is_some (circle_from s o)) where
    go : (b : Bool) → granted_of (if b then withdrawn s o else s) owner resource ≡ granted_of s owner resource
    go true = withdrawal s apart o
    go false = refl

  ask : (s : LockState) → IsApart s → (o : ℕ) (r : Resource) (level : Level) (word : ℕ) (answer : Asked) → granted_of (asked s o r level word answer) owner resource ≡ granted_of s owner resource
  ask s apart o r level word Granted = queued s o r level word
  ask s apart o r level word Queued = unless (after_ask s o r level word Queued) (apart_queued s o r level word apart) o ∙ queued s o r level word
  ask s apart o r level word _ = refl

  grant : (s : LockState) (o : ℕ) (r : Resource) (level : Level) → granted_of (locks_step s o (Grant r level)) owner resource ≡ (if is_key o r owner resource then level else granted_of s owner resource)
  grant s o r level = level-set owner resource o r 0 level (with_grant o r level) (λ x. refl) (λ x. refl) s.requests

  lowering : (s : LockState) (o : ℕ) (r : Resource) (level : Level) → granted_of (lowered_to s o r level) owner resource ≡ (if is_key o r owner resource then level else granted_of s owner resource)
  lowering s o r Free = level-without owner resource o r s.requests
  lowering s o r _ = level-set owner resource o r 0 _ (with_granted o r _) (λ x. refl) (λ x. refl) s.requests

  death : (s : LockState) (o : ℕ) → granted_of (locks_step s o Die) owner resource ≡ granted_of s owner resource
  death s o = level-map owner resource (of_dead o) (λ x. refl) (λ x. refl) s.requests

  granted-step : (s : LockState) → IsApart s → (o : ℕ) (act : Act) → granted_of (locks_step s o act) owner resource ≡ granted_step owner resource (granted_of s owner resource) o act
  granted-step s apart o (Opened locks) = refl
  granted-step s apart o (Ask r level wait word) = ask s apart o r level word (answer_to_ask s o r level wait)
  granted-step s apart o (Grant r level) = grant s o r level
  granted-step s apart o Withdraw = withdrawal s apart o
  granted-step s apart o (Lower r level) = lowering s o r level
  granted-step s apart o (Reap dead by) = level-without_owner owner resource dead s.requests
  granted-step s apart o (Write page cause true) = death s o
  granted-step s apart o (Write page cause false) = refl
  granted-step s apart o Die = death s o
  granted-step s apart o _ = refl

  pub granted-history : (history : History) → granted_of (locks_of history) owner resource ≡ granted history owner resource
  granted-history [] = refl
  granted-history (moment ∷ before) =
      granted-step (locks_of before) (apart-history before) moment.event.actor moment.event.act
      ∙ ap (λ level. granted_step owner resource level moment.event.actor moment.event.act) (granted-history before)
