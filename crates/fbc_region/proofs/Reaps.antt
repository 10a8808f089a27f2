-- Who is named dead by an answer of the lock table is dead, and in the way.
use Rattle.std.proofs.Common.{◌≡◌, ◌∙◌, ap, ℕ, Bool, true, false, not, if◌then◌else◌, List, length, Option, Some, None, IfSome, sym, subst, refl, arith}
use Rattle.std.specs.List.{All, filter, reduce}
use Rattle.std.proofs.lemmas.List.Elements.{All-filter, All-from_recursion, filter_passes}
use Rattle.fbc_kinds.specs.declared.shapes.Shape.{Shape}
use Rattle.fbc_kinds.specs.View.{View}
use Rattle.fbc_levels.specs.declared.levels.Level.{Level}
use Rattle.fbc_levels.specs.declared.resources.Request.{Request}
use Rattle.fbc_levels.specs.declared.resources.Resource.{Resource}
use Rattle.fbc_levels.specs.LockState.{LockState, dead_of, holder_of, is_dead, lesser, stands_in_way, wait_of}
use Rattle.fbc_levels.proofs.Least.{reduce-chosen}
use Rattle.fbc_lock_table.specs.declared.answers.Asked.TheVariants as asked
use Rattle.fbc_lock_table.specs.declared.answers.Looked.TheVariants as looked
use Rattle.fbc_lock_table.specs.Answers.{answer_beside, answer_by_wait, answer_in_full, answer_to_ask, answer_to_look, answer_to_waiter, holder_of_wait, lacks_room}
use Rattle.fbc_legal.specs.Guards.{GuardOfReap, IsInWayOfAsk}
use Rattle.fbc_legal.specs.Legal.{IsLegal}
use Rattle.fbc_legal.specs.Scene.{Scene, scene_of}
use Rattle.fbc_world.specs.declared.asks.Ask.TheVariants as ask
use Rattle.fbc_world.specs.History.{History}
use Rattle.fbc_world.specs.Locks.{locks_of}
use Rattle.fbc_world.specs.Owners.{is_alive}
use Rattle.fbc_world.proofs.WorldLaws.{IsReplayed-world}
use Rattle.fbc_region.specs.Kept.{IsOfCome}
use Rattle.fbc_region.proofs.Fated.{come_legal}

-- What holds of all that pass holds of the least of them.
chosen : (P : Request → Type 0) (p : Request → Bool) (rs : List Request) (r : Request) → All P rs → reduce lesser (filter p rs) ≡ Some r → P r
chosen P p rs r all is = subst (λ o. IfSome o P) is (reduce-chosen P (filter p rs) (All-filter p P rs all))

chosen_passes : (p : Request → Bool) (rs : List Request) (r : Request) → reduce lesser (filter p rs) ≡ Some r → p r ≡ true
chosen_passes p rs r is = subst (λ o. IfSome o (λ x. p x ≡ true)) is (reduce-chosen (λ x. p x ≡ true) (filter p rs) (filter_passes p rs))

module _ (shape : Shape) (file : View) (history : History) (legal : IsLegal shape file history) (owner dead : ℕ) where
  abbrev s : LockState
  s = locks_of history

  abbrev at : Scene
  at = scene_of shape file history

  locks_is : at.world.locks ≡ s
  locks_is = (IsReplayed-world shape file history).locks_is

  fates : All (IsOfCome history) s.requests
  fates = All-from_recursion (IsOfCome history) s.requests (come_legal shape file history legal)

  buried : (r : Request) → IsOfCome history r → r.alive ≡ false → r.owner ≡ dead → at.world.is_alive dead ≡ false
  buried r come isnt its = (IsReplayed-world shape file history).alive_is dead ∙ sym (ap (is_alive history) its) ∙ sym come.0 ∙ isnt

  not_alive : (r : Request) → is_dead r ≡ true → r.alive ≡ false
  not_alive r is = grind (arith, is)

  -- The holder that an ask names.
  named_beside : (wait : Bool) (holder : Request) → answer_beside wait (Some holder) ≡ asked.Dead dead → (holder.alive ≡ false) × (holder.owner ≡ dead)
  named_beside wait holder is = go holder.alive refl is where
    go : (b : Bool) → holder.alive ≡ b → (if not b then asked.Dead holder.owner else (if wait then asked.Queued else asked.Busy holder.owner holder.granted)) ≡ asked.Dead dead
        → (holder.alive ≡ false) × (holder.owner ≡ dead)
    go false alive is' = (alive, cc)
    go true alive is' = absurd (waits wait is') where
      waits : (b : Bool) → (if b then asked.Queued else asked.Busy holder.owner holder.granted) ≡ asked.Dead dead → ⊥
      waits true e = cc
      waits false e = cc

  pub reap_asked : (resource : Resource) (level : Level) (wait : Bool) (word : ℕ) → answer_to_ask s owner resource level wait ≡ asked.Dead dead → GuardOfReap at owner dead (ask.Lock resource level wait word)
  reap_asked resource level wait word is = go (lacks_room s owner resource) refl (dead_of s) refl (holder_of s owner resource level) refl is where
    go : (b : Bool) → lacks_room s owner resource ≡ b → (least : Option Request) → dead_of s ≡ least → (holder : Option Request) → holder_of s owner resource level ≡ holder
        → (if b then answer_in_full (length s.requests) least else answer_beside wait holder) ≡ asked.Dead dead → GuardOfReap at owner dead (ask.Lock resource level wait word)
    go true full None none holder at_holder is' = absurd cc
    go true full (Some least) at_least holder at_holder is' =
        let its : least.owner ≡ dead = cc in
        record {
          is_dead = buried least (chosen (IsOfCome history) is_dead s.requests least fates at_least) (not_alive least (chosen_passes is_dead s.requests least at_least)) its;
          in_way = IsInWayOfAsk.fills least (rw locks_is full) (rw locks_is at_least) its;
        }
    go false room least at_least None at_holder is' = absurd cc
    go false room least at_least (Some holder) at_holder is' =
        let named = named_beside wait holder is' in
        record {
          is_dead = buried holder (chosen (IsOfCome history) (stands_in_way owner resource level) s.requests holder fates at_holder) named.0 named.1;
          in_way = IsInWayOfAsk.holds holder (rw locks_is room) (rw locks_is at_holder) named.1;
        }

  -- The holder that a look names.
  named_waiting : (holder : Request) → answer_to_waiter (Some holder) ≡ looked.Dead dead → (holder.alive ≡ false) × (holder.owner ≡ dead)
  named_waiting holder is = go holder.alive refl is where
    go : (b : Bool) → holder.alive ≡ b → (if b then looked.NotYet holder.owner else looked.Dead holder.owner) ≡ looked.Dead dead → (holder.alive ≡ false) × (holder.owner ≡ dead)
    go false alive is' = (alive, cc)
    go true alive is' = absurd cc

  pub reap_looked : answer_to_look s owner ≡ looked.Dead dead → GuardOfReap at owner dead ask.Look
  reap_looked is = go (wait_of s owner) refl is where
    by_holder : (wait : Request) (level : Level) → wait_of s owner ≡ Some wait → wait.waiting ≡ Some level → (holder : Option Request) → holder_of s owner wait.resource level ≡ holder
        → answer_to_waiter holder ≡ looked.Dead dead → GuardOfReap at owner dead ask.Look
    by_holder wait level waits wanted None at_holder is' = absurd cc
    by_holder wait level waits wanted (Some holder) at_holder is' =
        let named = named_waiting holder is' in
        record {
          is_dead = buried holder (chosen (IsOfCome history) (stands_in_way owner wait.resource level) s.requests holder fates at_holder) named.0 named.1;
          in_way = record { wait = wait; level = level; holder = holder; waits = rw locks_is waits; wanted = wanted; in_way = rw locks_is at_holder; is = named.1 };
        }

    by_wait : (wait : Request) → wait_of s owner ≡ Some wait → (level : Option Level) → wait.waiting ≡ level → answer_to_waiter (holder_of_wait s wait.resource level owner) ≡ looked.Dead dead
        → GuardOfReap at owner dead ask.Look
    by_wait wait waits None wanted is' = absurd cc
    by_wait wait waits (Some level) wanted is' = by_holder wait level waits wanted (holder_of s owner wait.resource level) refl is'

    go : (found : Option Request) → wait_of s owner ≡ found → answer_by_wait s owner found ≡ looked.Dead dead → GuardOfReap at owner dead ask.Look
    go None waits is' = absurd cc
    go (Some wait) waits is' = by_wait wait waits wait.waiting refl is'
