-- A pair is that of an actor.
use Rattle.std.proofs.Common.{◌≡◌, refl, ℕ, Bool, true, false, ◌==◌, ◌||◌, List, [], ◌∷◌, reverse, arith}
use Rattle.std.specs.Prelude.{◌↔◌, IsTrue}
use Rattle.std.specs.List.{list_any}
use Rattle.std.proofs.lemmas.Bool.{both_ways, or_from, or_parts, true_from_ne_false}
use Rattle.std.proofs.lemmas.Bool.Decides.{nat_tests}
use Rattle.std.proofs.lemmas.Grind.{common_steps}
use Rattle.std.proofs.lemmas.List.Folds.{list_any-append}
use Rattle.fbc_world.specs.declared.events.Act.{Act}
use Rattle.fbc_world.specs.declared.events.Act.TheVariants.{Die, Local, Write}
use Rattle.fbc_world.specs.declared.events.Event.{Event}
use Rattle.fbc_world.specs.declared.events.LocalEvent.TheVariants as local
use Rattle.fbc_world.specs.History.{none_landed}
use Rattle.fbc_world.specs.WriteOrder.{IsPair, pairs_of, pair_step}

any_reverse : (p : Event → Bool) (xs : List Event) → list_any p (reverse xs) ≡ list_any p xs
any_reverse p [] = refl
any_reverse p (x ∷ xs) = grind (arith, common_steps, list_any-append p (reverse xs) (x ∷ []), any_reverse p xs)

-- An item that passes, with its number.
pick : (p : ℕ → Bool) (a : ℕ) (r t : Bool) → p a ≡ t → t || r ≡ true → (r ≡ true → (owner : ℕ) × (p owner ≡ true)) → (owner : ℕ) × (p owner ≡ true)
pick p a r true e h k = (a, e)
pick p a r false e h k = k h

some_actor : (p : ℕ → Bool) (events : List Event) → list_any (λ (e : Event). p e.actor) events ≡ true → (owner : ℕ) × (p owner ≡ true)
some_actor p [] h = absurd cc
some_actor p (e ∷ events) h = pick p e.actor (list_any (λ (e : Event). p e.actor) events) (p e.actor) refl h (some_actor p events)

another : (p : ℕ → Bool) (a owner : ℕ) → p owner ≡ true → p a ≡ false → a == owner ≡ false
another p a owner has none = grind (arith, nat_tests, has, none)

no_actor : (p : ℕ → Bool) (owner : ℕ) → p owner ≡ true → (events : List Event) → list_any (λ (e : Event). p e.actor) events ≡ false
    → list_any (λ (e : Event). e.actor == owner) events ≡ false
no_actor p owner has [] h = refl
no_actor p owner has (e ∷ events) h =
    let parts = or_parts (p e.actor) (list_any (λ (e : Event). p e.actor) events) h in
    or_from _ _ (another p e.actor owner has parts.0) (no_actor p owner has events parts.1)

module _ (owner high low : ℕ) where
  -- Another's act makes no pair of the owner's.
  others_act : (actor : ℕ) (act : Act) → actor == owner ≡ false → pair_step owner high low false actor act false ≡ false
  others_act actor (Local (local.Before above below)) other = grind (arith, other)
  others_act actor (Write number cause failed) other = grind (arith, other)
  others_act actor Die other = grind (arith, other)
  others_act actor _ other = refl

  -- Who has done nothing has no pair.
  idle : (events : List Event) → list_any (λ (e : Event). e.actor == owner) events ≡ false → pairs_of (none_landed events) owner high low ≡ false
  idle [] h = refl
  idle (e ∷ events) h =
      let parts = or_parts (e.actor == owner) (list_any (λ (e : Event). e.actor == owner) events) h in
      rw (idle events parts.1) (others_act e.actor e.act parts.0)

-- Some owner has the pair exactly where some actor has it.
pub IsPair-actor : (high low : ℕ) (events : List Event)
    → IsTrue (list_any (λ (e : Event). pairs_of (none_landed (reverse events)) e.actor high low) events) ↔ IsPair (none_landed (reverse events)) high low
IsPair-actor high low events =
    let p : ℕ → Bool = λ owner. pairs_of (none_landed (reverse events)) owner high low in (
      some_actor p events,
      λ h. true_from_ne_false _ (λ e. both_ways (p h.0) (idle h.0 high low (reverse events) (rw (any_reverse (λ (event : Event). event.actor == h.0) events) (no_actor p h.0 h.1 events e))) h.1),
    )
