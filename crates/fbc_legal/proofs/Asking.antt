-- Who waits after each change of the requests waited before, or has just asked.
use Rattle.std.proofs.Common.{◌≡◌, ◌⊎◌, inl, ℕ, Bool, true, false, not, ◌==◌, if◌then◌else◌, List, Option, Some, None, is_some, refl, arith}
use Rattle.fbc_levels.specs.declared.levels.Level.{Level}
use Rattle.fbc_levels.specs.declared.resources.Resource.{Resource}
use Rattle.fbc_levels.specs.LockState.{LockState}
use Rattle.fbc_lock_table.specs.declared.answers.Asked.{Asked}
use Rattle.fbc_lock_table.specs.declared.answers.Asked.TheVariants.{Granted, Queued}
use Rattle.fbc_lock_table.specs.Answers.{answer_to_ask}
use Rattle.fbc_lock_table.specs.Effects.{after_ask, of_dead, withdrawn}
use Rattle.fbc_owner_queues.specs.Circles.{circle_from}
use Rattle.fbc_world.specs.declared.events.Act.{Act}
use Rattle.fbc_world.specs.declared.events.Act.TheVariants.{Ask, Die, Grant, Lower, Opened, Reap, Withdraw, Write}
use Rattle.fbc_world.specs.Locks.{asked, locks_step, unless_circle}
use Rattle.fbc_legal.proofs.Waiters.{waited_filter, waited_grant, waited_lower, waited_map, waited_withdrawn, waits_in, waits_queued, withdrawn_waits_not}

-- The act is this owner's ask for the resource.
abbrev pub IsAskFor : ℕ → Act → ℕ → Resource → Type 0
IsAskFor actor (Ask resource level wait word) owner wanted = (actor ≡ owner) × (resource ≡ wanted)
IsAskFor actor _ owner wanted = ⊥

module _ (owner : ℕ) (wanted : Resource) (s : LockState) where
  abbrev Waits : LockState → Type 0
  Waits after = waits_in after owner wanted ≡ true

  unless : (a : LockState) (actor : ℕ) → Waits (unless_circle a actor) → Waits a
  unless a actor is = go (is_some (circle_from a actor)) is where
    go : (b : Bool) → Waits (if b then withdrawn a actor else a) → Waits a
    go true waits = waited_withdrawn owner wanted a actor waits
    go false waits = waits

  asking : (actor : ℕ) (resource : Resource) (level : Level) (word : ℕ) (answer : Asked) → Waits (asked s actor resource level word answer) → Waits s ⊎ ((actor ≡ owner) × (resource ≡ wanted))
  asking actor resource level word Granted is = waits_queued owner wanted s.requests actor resource level word is
  asking actor resource level word Queued is = waits_queued owner wanted s.requests actor resource level word (unless (after_ask s actor resource level word Queued) actor is)
  asking actor resource level word _ is = inl is

  dying : (actor : ℕ) → Waits (locks_step s actor Die) → Waits s
  dying actor is = waited_map owner wanted (of_dead actor) (λ x waits. waits) s.requests is

  pub waits-step : (actor : ℕ) (act : Act) → Waits (locks_step s actor act) → Waits s ⊎ IsAskFor actor act owner wanted
  waits-step actor (Opened locks) is = absurd cc
  waits-step actor (Ask resource level wait word) is = asking actor resource level word (answer_to_ask s actor resource level wait) is
  waits-step actor (Grant resource level) is = inl (waited_grant owner wanted s.requests actor resource level is)
  waits-step actor Withdraw is = inl (waited_withdrawn owner wanted s actor is)
  waits-step actor (Lower resource level) is = inl (waited_lower owner wanted s actor resource level is)
  waits-step actor (Reap dead by) is = inl (waited_filter owner wanted (λ x. not (x.owner == dead)) s.requests is)
  waits-step actor (Write page cause true) is = inl (dying actor is)
  waits-step actor (Write page cause false) is = inl is
  waits-step actor Die is = inl (dying actor is)
  waits-step actor _ is = inl is

  -- What an ask comes to where its owner waits after it, but did not before.
  pub data ComesTo (resource : Resource) (level : Level) (wait : Bool) (word : ℕ) : Type 0 where
    at_once : answer_to_ask s owner resource level wait ≡ Granted → ComesTo resource level wait word
    in_queue : answer_to_ask s owner resource level wait ≡ Queued → circle_from (after_ask s owner resource level word Queued) owner ≡ None → ComesTo resource level wait word

  pub ask-comes : (resource : Resource) (level : Level) (wait : Bool) (word : ℕ) → waits_in s owner wanted ≡ false → Waits (locks_step s owner (Ask resource level wait word)) → ComesTo resource level wait word
  ask-comes resource level wait word free is = go (answer_to_ask s owner resource level wait) refl is where
    refused : waits_in s owner wanted ≡ true → ComesTo resource level wait word
    refused waits = absurd (grind (arith, free, waits))

    queued : (o : Option (List ℕ)) → circle_from (after_ask s owner resource level word Queued) owner ≡ o
        → Waits (if is_some o then withdrawn (after_ask s owner resource level word Queued) owner else after_ask s owner resource level word Queued) → answer_to_ask s owner resource level wait ≡ Queued → ComesTo resource level wait word
    queued None closes waits answer = in_queue answer closes
    queued (Some circle) closes waits answer = absurd (withdrawn_waits_not owner wanted (after_ask s owner resource level word Queued) waits)

    go : (answer : Asked) → answer_to_ask s owner resource level wait ≡ answer → Waits (asked s owner resource level word answer) → ComesTo resource level wait word
    go Granted answer waits = at_once answer
    go Queued answer waits = queued (circle_from (after_ask s owner resource level word Queued) owner) refl waits answer
    go _ answer waits = refused waits
