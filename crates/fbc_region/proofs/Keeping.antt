-- What a region keeps after one event more by which nobody comes, goes or dies.
use Rattle.std.proofs.Common.{◌≡◌, ◌∙◌, ap, ℕ, ◌+◌, ◌≤◌, Bool, true, false, ◌==◌, if◌then◌else◌, List, [], ◌∷◌, ◌++◌, length, sym, subst, refl, arith}
use Rattle.std.specs.List.{AllByRecursion}
use Rattle.fbc_levels.specs.declared.resources.Request.{Request}
use Rattle.fbc_levels.specs.LockState.{LockState}
use Rattle.fbc_legal.specs.Lives.{entered, entered_step, living, living_step}
use Rattle.fbc_world.specs.declared.events.Act.{Act}
use Rattle.fbc_world.specs.declared.events.Act.TheVariants.{Die, Enter, Leave, Least, Local, Look, Note, Poll, Read, Write}
use Rattle.fbc_world.specs.History.{History, Recording, happens, recorded}
use Rattle.fbc_world.specs.Locks.{locks_of, locks_step}
use Rattle.fbc_world.specs.Owners.{alive_step, is_alive}
use Rattle.fbc_region.specs.Adding.{UsesRoom, by, is_quiet, is_still}
use Rattle.fbc_region.specs.Kept.{IsKept, IsOfCome}
use Rattle.fbc_region.specs.Shared.{HasRoom}
use Rattle.fbc_region.proofs.Pushed.{recorded_push}

living_still : (owners : List ℕ) (actor : ℕ) (act : Act) → is_still act ≡ true → living_step owners actor act ≡ owners
living_still owners actor (Enter buffers name) still = absurd cc
living_still owners actor Leave still = absurd cc
living_still owners actor Die still = absurd cc
living_still owners actor (Write page cause true) still = absurd cc
living_still owners actor (Write page cause false) still = refl
living_still owners actor _ still = refl

entered_still : (count : ℕ) (act : Act) → is_still act ≡ true → entered_step count act ≡ count
entered_still count (Enter buffers name) still = absurd cc
entered_still count _ still = refl

alive_still : (alive : Bool) (act : Act) → is_still act ≡ true → alive_step alive act ≡ alive
alive_still alive (Enter buffers name) still = absurd cc
alive_still alive Leave still = absurd cc
alive_still alive Die still = absurd cc
alive_still alive (Write page cause true) still = absurd cc
alive_still alive (Write page cause false) still = refl
alive_still alive _ still = refl

is_alive_still : (before : History) (actor : ℕ) (act : Act) (owner : ℕ) → is_still act ≡ true → is_alive (happens actor act false ∷ before) owner ≡ is_alive before owner
is_alive_still before actor act owner still = go (actor == owner) where
  go : (b : Bool) → (if b then alive_step (is_alive before owner) act else is_alive before owner) ≡ is_alive before owner
  go true = alive_still (is_alive before owner) act still
  go false = refl

pub come_still : (before : History) (actor : ℕ) (act : Act) → is_still act ≡ true → (rs : List Request) → AllByRecursion (IsOfCome before) rs → AllByRecursion (IsOfCome (happens actor act false ∷ before)) rs
come_still before actor act still [] all = tt
come_still before actor act still (r ∷ rs) all =
    ((all.0.0 ∙ sym (is_alive_still before actor act r.owner still), omega (arith, all.0.1, entered_still (entered before) act still)), come_still before actor act still rs all.1)

quiet_is_still : (act : Act) → is_quiet act ≡ true → is_still act ≡ true
quiet_is_still Look quiet = refl
quiet_is_still (Read page fault) quiet = refl
quiet_is_still (Write page cause failed) quiet = quiet
quiet_is_still (Poll above) quiet = refl
quiet_is_still Least quiet = refl
quiet_is_still (Note reply) quiet = refl
quiet_is_still (Local event) quiet = refl
quiet_is_still _ quiet = absurd cc

quiet_locks : (s : LockState) (owner : ℕ) (act : Act) → is_quiet act ≡ true → locks_step s owner act ≡ s
quiet_locks s owner Look quiet = refl
quiet_locks s owner (Read page fault) quiet = refl
quiet_locks s owner (Write page cause true) quiet = absurd cc
quiet_locks s owner (Write page cause false) quiet = refl
quiet_locks s owner (Poll above) quiet = refl
quiet_locks s owner Least quiet = refl
quiet_locks s owner (Note reply) quiet = refl
quiet_locks s owner (Local event) quiet = refl
quiet_locks s owner _ quiet = absurd cc

module _ (before after : Recording) (actor : ℕ) (act : Act) (still : is_still act ≡ true) (events : after.events ≡ before.events ++ by actor act ∷ []) where
  whole : recorded after ≡ happens actor act false ∷ recorded before
  whole = recorded_push before after (by actor act) events

  pub living_same : length (living (recorded after)) ≡ length (living (recorded before))
  living_same = ap (λ h. length (living h)) whole ∙ ap length (living_still (living (recorded before)) actor act still)

  entered_same : entered (recorded after) ≡ entered (recorded before)
  entered_same = ap entered whole ∙ entered_still (entered (recorded before)) act still

  pub came_still : (table : LockState) → IsKept before table → entered_step (entered (recorded before)) act ≤ 65536
  came_still table k = omega (arith, entered_still (entered (recorded before)) act still, k.within)

  pub locks_still : locks_of (recorded after) ≡ locks_step (locks_of (recorded before)) actor act
  locks_still = ap locks_of whole

  pub room_still : after.spare + 1 ≡ before.spare → UsesRoom before after 1
  room_still spare n room = omega (arith, living_same, spare, room)

  pub kept_still : (table next : LockState) → IsKept before table → after.spare + 1 ≡ before.spare → HasRoom before 1
      → next ≡ locks_step table actor act → AllByRecursion (IsOfCome (recorded before)) next.requests → IsKept after next
  kept_still table next k spare room step come = record {
    requests = step ∙ ap (λ s. locks_step s actor act) k.requests ∙ sym locks_still;
    within = omega (arith, k.within, entered_same);
    few = omega (arith, living_same, k.few);
    aside = omega (arith, living_same, spare, room);
    come = subst (λ h. AllByRecursion (IsOfCome h) next.requests) (sym whole) (come_still (recorded before) actor act still next.requests come);
    living_came = λ owner alive. omega (arith, entered_same, k.living_came owner (sym (ap (λ h. is_alive h owner) whole ∙ is_alive_still (recorded before) actor act owner still) ∙ alive));
  }

-- The same of an act that changes no request.
pub kept_quiet : (before after : Recording) (actor : ℕ) (act : Act) → is_quiet act ≡ true → after.events ≡ before.events ++ by actor act ∷ []
    → (table : LockState) → IsKept before table → after.spare + 1 ≡ before.spare → HasRoom before 1 → IsKept after table
kept_quiet before after actor act quiet events table k spare room =
    kept_still before after actor act (quiet_is_still act quiet) events table table k spare room (sym (quiet_locks table actor act quiet)) k.come

pub room_quiet : (before after : Recording) (actor : ℕ) (act : Act) → is_quiet act ≡ true → after.events ≡ before.events ++ by actor act ∷ [] → after.spare + 1 ≡ before.spare → UsesRoom before after 1
room_quiet before after actor act quiet events spare = room_still before after actor act (quiet_is_still act quiet) events spare

-- And for no more owners there is a number than came.
pub came_quiet : (before : Recording) (act : Act) (table : LockState) → is_quiet act ≡ true → IsKept before table → entered_step (entered (recorded before)) act ≤ 65536
came_quiet before act table quiet k = omega (arith, entered_still (entered (recorded before)) act (quiet_is_still act quiet), k.within)

-- What uses little room uses no more than a step may.
pub uses_more : (given after before : Recording) → before ≡ given → UsesRoom before after 1 → UsesRoom given after 9
uses_more given after before seen one = subst (λ j. UsesRoom j after 9) seen (λ n room. one n (omega (arith, room)))
