-- A journal's history by its landings, with events more; and what the landings leave.
use Rattle.std.proofs.Common.{◌≡◌, ◌∙◌, ap, ℕ, Bool, true, false, ◌==◌, if◌then◌else◌, List, [], ◌∷◌, ◌++◌, reverse, append-nil, append_assoc, sym, refl}
use Rattle.std.specs.List.{AllByRecursion}
use Rattle.std.proofs.lemmas.List.{reverse-append}
use Rattle.fbc_world.specs.declared.events.Act.TheVariants.{Local}
use Rattle.fbc_world.specs.declared.events.Event.{Event}
use Rattle.fbc_world.specs.declared.events.LocalEvent.{LocalEvent}
use Rattle.fbc_world.specs.History.{History, Recording, happens, none_landed, recorded}
use Rattle.fbc_world.specs.Locks.{locks_of, locks_step}
use Rattle.fbc_world.specs.Owners.{alive_step, is_alive}
use Rattle.fbc_region.specs.Adding.{local_events}
use Rattle.fbc_region.specs.Granting.{AreGrants, GrantedOn, ended, granted}
use Rattle.fbc_legal.specs.Circles.{IsFreeAsk}
use Rattle.fbc_region.specs.Kept.{IsAtRest}
use Rattle.fbc_region.specs.Lawful.{with_locals}
use Rattle.fbc_region.specs.Shared.{earlier_landings, first_landing, history_of, is_failed_write, locks_in, with_landings}
use Rattle.fbc_levels.specs.declared.resources.Resource.{Resource}
use Rattle.fbc_levels.specs.LockState.{LockState}
use Rattle.fbc_region.proofs.Grown.{lengthened}

-- The requests are the same whichever writes landed.
locks_landed : (events : List Event) (landings : List Bool) → locks_of (with_landings events landings) ≡ locks_of (none_landed events)
locks_landed [] landings = refl
locks_landed (event ∷ events) landings = go (is_failed_write event.act) (locks_landed events (earlier_landings landings)) (locks_landed events landings) where
  go : (b : Bool) → locks_of (with_landings events (earlier_landings landings)) ≡ locks_of (none_landed events) → locks_of (with_landings events landings) ≡ locks_of (none_landed events)
      → locks_of (if b then record { event = event; landed = first_landing landings } ∷ with_landings events (earlier_landings landings) else record { event = event; landed = false } ∷ with_landings events landings)
      ≡ locks_step (locks_of (none_landed events)) event.actor event.act
  go true one other = ap (λ s. locks_step s event.actor event.act) one
  go false one other = ap (λ s. locks_step s event.actor event.act) other

pub locks_same : (journal : Recording) (landings : List Bool) → locks_in journal ≡ locks_of (history_of journal landings)
locks_same journal landings = sym (locks_landed (reverse journal.events) (reverse landings))

-- And so is whether an ask still waits for its grant.
rests_landed : (events : List Event) (landings : List Bool) → IsAtRest (none_landed events) → IsAtRest (with_landings events landings)
rests_landed [] landings rests = rests
rests_landed (event ∷ events) landings rests = go (is_failed_write event.act) where
  asked : (others : List Bool) (landed : Bool) (owner : ℕ) (resource : Resource) → IsFreeAsk (with_landings events others) owner resource (record { event = event; landed = landed })
      → IsFreeAsk (none_landed events) owner resource (record { event = event; landed = false })
  asked others landed owner resource just =
      record { level = just.level; wait = just.wait; word = just.word; actor = just.actor; act = just.act; free = rw (← locks_landed events others) just.free }

  go : (b : Bool) → IsAtRest (if b then record { event = event; landed = first_landing landings } ∷ with_landings events (earlier_landings landings) else record { event = event; landed = false } ∷ with_landings events landings)
  go true = λ owner resource just. rests owner resource (asked (earlier_landings landings) (first_landing landings) owner resource just)
  go false = λ owner resource just. rests owner resource (asked landings false owner resource just)

pub rests_same : (journal : Recording) (landings : List Bool) → IsAtRest (recorded journal) → IsAtRest (history_of journal landings)
rests_same journal landings rests = rests_landed (reverse journal.events) (reverse landings) rests

-- And so is who is alive.
alive_landed : (events : List Event) (landings : List Bool) (owner : ℕ) → is_alive (with_landings events landings) owner ≡ is_alive (none_landed events) owner
alive_landed [] landings owner = refl
alive_landed (event ∷ events) landings owner = go (is_failed_write event.act) (alive_landed events (earlier_landings landings) owner) (alive_landed events landings owner) where
  go : (b : Bool) → is_alive (with_landings events (earlier_landings landings)) owner ≡ is_alive (none_landed events) owner → is_alive (with_landings events landings) owner ≡ is_alive (none_landed events) owner
      → is_alive (if b then record { event = event; landed = first_landing landings } ∷ with_landings events (earlier_landings landings) else record { event = event; landed = false } ∷ with_landings events landings) owner
      ≡ (if event.actor == owner then alive_step (is_alive (none_landed events) owner) event.act else is_alive (none_landed events) owner)
  go true one other = ap (λ a. if event.actor == owner then alive_step a event.act else a) one
  go false one other = ap (λ a. if event.actor == owner then alive_step a event.act else a) other

pub alive_same : (journal : Recording) (landings : List Bool) (owner : ℕ) → is_alive (history_of journal landings) owner ≡ is_alive (recorded journal) owner
alive_same journal landings owner = alive_landed (reverse journal.events) (reverse landings) owner

-- An event that is no failed write.
abbrev pub IsSteady : Event → Type 0
IsSteady event = is_failed_write event.act ≡ false

newest_steady : (event : Event) (events : List Event) (landings : List Bool) → IsSteady event → with_landings (event ∷ events) landings ≡ record { event = event; landed = false } ∷ with_landings events landings
newest_steady event events landings steady = rw steady refl

newest_failed : (event : Event) (events : List Event) (landed : Bool) (landings : List Bool) → is_failed_write event.act ≡ true
    → with_landings (event ∷ events) (landed ∷ landings) ≡ record { event = event; landed = landed } ∷ with_landings events landings
newest_failed event events landed landings failed = rw failed refl

pub history_push : (before after : Recording) (event : Event) (landings : List Bool) → after.events ≡ before.events ++ event ∷ [] → IsSteady event
    → history_of after landings ≡ record { event = event; landed = false } ∷ history_of before landings
history_push before after event landings is steady =
    ap (λ es. with_landings (reverse es) (reverse landings)) is ∙ ap (λ es. with_landings es (reverse landings)) (reverse-append before.events (event ∷ []))
    ∙ newest_steady event (reverse before.events) (reverse landings) steady

pub history_failed : (before after : Recording) (event : Event) (landings : List Bool) (landed : Bool) → after.events ≡ before.events ++ event ∷ [] → is_failed_write event.act ≡ true
    → history_of after (landings ++ landed ∷ []) ≡ record { event = event; landed = landed } ∷ history_of before landings
history_failed before after event landings landed is failed =
    ap (λ es. with_landings (reverse es) (reverse (landings ++ landed ∷ []))) is ∙ ap (λ es. with_landings es (reverse (landings ++ landed ∷ []))) (reverse-append before.events (event ∷ []))
    ∙ ap (with_landings (event ∷ reverse before.events)) (reverse-append landings (landed ∷ []))
    ∙ newest_failed event (reverse before.events) landed (reverse landings) failed

pub history_adds : (before after : Recording) (events : List Event) (landings : List Bool) → after.events ≡ before.events ++ events → AllByRecursion IsSteady events
    → history_of after landings ≡ lengthened (history_of before landings) events
history_adds before after [] landings is steady = ap (λ es. with_landings (reverse es) (reverse landings)) (is ∙ append-nil before.events)
history_adds before after (event ∷ events) landings is steady =
    let mid : Recording = record before { events = before.events ++ event ∷ [] } in
    history_adds mid after events landings (is ∙ sym (append_assoc before.events (event ∷ []) events)) steady.1
    ∙ ap (λ h. lengthened h events) (history_push before mid event landings refl steady.0)

pub locals_steady : (owner : ℕ) (events : List LocalEvent) → AllByRecursion IsSteady (local_events owner events)
locals_steady owner [] = tt
locals_steady owner (event ∷ events) = (refl, locals_steady owner events)

pub locals_lengthen : (h : History) (owner : ℕ) (events : List LocalEvent) → lengthened h (local_events owner events) ≡ with_locals h owner events
locals_lengthen h owner [] = refl
locals_lengthen h owner (event ∷ events) = locals_lengthen (happens owner (Local event) false ∷ h) owner events

steady_append : (first rest : List Event) → AllByRecursion IsSteady first → AllByRecursion IsSteady rest → AllByRecursion IsSteady (first ++ rest)
steady_append [] rest one other = other
steady_append (event ∷ first) rest one other = (one.0, steady_append first rest one.1 other)

grants_steady : (resource : Resource) (s later : LockState) (grants : List Event) → GrantedOn resource s grants later → AllByRecursion IsSteady grants
grants_steady resource _ _ _ (ended s later grants none same empty) = rw empty tt
grants_steady resource _ _ _ (granted s later grants rest r level next waits is more) = rw is (refl, grants_steady resource _ later rest more)

pub are_steady : (resources : List Resource) (s : LockState) (grants : List Event) → AreGrants resources s grants → AllByRecursion IsSteady grants
are_steady [] s grants are = rw are tt
are_steady (resource ∷ others) s grants (first, rest, later, split, on, more) =
    rw split (steady_append first rest (grants_steady resource s later first on) (are_steady others later rest more))
