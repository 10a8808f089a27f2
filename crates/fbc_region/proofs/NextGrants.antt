-- What is granted next may be granted after a legal history at rest, and grants one after the other keep it so.
use Rattle.std.proofs.Common.{◌≡◌, ◌≢◌, ◌∙◌, ℕ, true, false, List, [], ◌∷◌, Option, Some, None, IfSome, sym, subst, refl, arith}
use Rattle.std.specs.List.{All}
use Rattle.std.specs.Option.{option_map_or}
use Rattle.std.proofs.lemmas.Bool.Decides.{nat_tests}
use Rattle.std.proofs.lemmas.List.Elements.{All-from_recursion}
use Rattle.fbc_kinds.specs.declared.shapes.Shape.{Shape}
use Rattle.fbc_kinds.specs.View.{View}
use Rattle.fbc_levels.specs.declared.levels.Level.{Level}
use Rattle.fbc_levels.specs.declared.levels.Level.TheVariants.{Free}
use Rattle.fbc_levels.specs.declared.resources.Request.{Request}
use Rattle.fbc_levels.specs.declared.resources.Resource.{Resource}
use Rattle.fbc_levels.specs.Levels.{is_compatible}
use Rattle.fbc_levels.specs.LockState.{LockState, holder_of, is_of, lesser, request_of, stands_in_way}
use Rattle.fbc_lock_table.specs.Effects.{after_grant}
use Rattle.fbc_lock_table.proofs.Pairs.{none-reduce}
use Rattle.fbc_lock_table.proofs.Ways.{compatible-sym}
use Rattle.fbc_owner_queues.specs.Grants.{next_grant}
use Rattle.fbc_legal.specs.Guards.{BeginsWell}
use Rattle.fbc_legal.specs.Scene.{Scene, scene_of}
use Rattle.fbc_legal.proofs.Exclusion.{AreRequestsTrue}
use Rattle.fbc_legal.proofs.Induction.{requests_true}
use Rattle.fbc_legal.proofs.ListTests.{found_any}
use Rattle.fbc_world.specs.declared.events.Act.TheVariants.{Grant}
use Rattle.fbc_world.specs.declared.events.Event.{Event}
use Rattle.fbc_world.specs.History.{History, happens}
use Rattle.fbc_world.specs.Locks.{locks_of, waiting_of}
use Rattle.fbc_world.specs.World.{World, is_begin}
use Rattle.fbc_world.proofs.Apart.{apart-history}
use Rattle.fbc_world.proofs.Found.{find_passes}
use Rattle.fbc_world.proofs.WorldLaws.{IsReplayed, IsReplayed-world}
use Rattle.fbc_region.specs.Granting.{AreGrants, GrantedOn, ended, granted}
use Rattle.fbc_region.specs.Kept.{IsOfCome}
use Rattle.fbc_region.specs.Lawful.{MeetsGuard}
use Rattle.fbc_region.proofs.Begins.{begins_by}
use Rattle.fbc_region.proofs.BeginsTold.{begins_told}
use Rattle.fbc_region.proofs.Ending.{Ends, ends_on, rests_after}
use Rattle.fbc_region.proofs.Fated.{come_legal}
use Rattle.fbc_region.proofs.Granting.{alive_apart, all_found, only_apart, resource_apart, way_apart}
use Rattle.fbc_region.proofs.Grown.{lengthened, step_apart}
use Rattle.fbc_region.proofs.Purging.{lengthened_append}

-- Where nobody is in the way of a level, what the others are granted goes beside it.
pub beside_all : (w : World) → AreRequestsTrue w → (owner : ℕ) (resource : Resource) (level : Level) → holder_of w.locks owner resource level ≡ None → (other : ℕ) → other ≢ owner
    → is_compatible level (w.granted other resource) ≡ true
beside_all w true_requests owner resource level none other apart =
    subst (λ held. is_compatible level held ≡ true) (true_requests.agrees other resource) (go (request_of w.locks other resource) refl) where
      free : All (λ r. stands_in_way owner resource level r ≡ false) w.locks.requests
      free = none-reduce lesser (stands_in_way owner resource level) w.locks.requests none

      beside : (r : Request) → is_of other resource r ≡ true → stands_in_way owner resource level r ≡ false → is_compatible level r.granted ≡ true
      beside r is out = grind (arith, nat_tests, is, out, apart)

      go : (found : Option Request) → request_of w.locks other resource ≡ found → is_compatible level (option_map_or (λ (r : Request). r.granted) found Free) ≡ true
      go None is = compatible-sym level Free
      go (Some r) is = beside r (find_passes (is_of other resource) w.locks.requests r is) (all_found (λ x. stands_in_way owner resource level x ≡ false) (is_of other resource) w.locks.requests r free is)

module _ (shape : Shape) (file : View) (history : History) (ends : Ends shape file history) (resource : Resource) (r : Request) (level : Level)
    (next : next_grant (locks_of history) resource ≡ Some r) (waits : r.waiting ≡ Some level) where
  abbrev s : LockState
  s = locks_of history

  abbrev at : Scene
  at = scene_of shape file history

  is : IsReplayed shape file history at.world
  is = IsReplayed-world shape file history

  found : request_of s r.owner resource ≡ Some r
  found = subst (λ res. request_of s r.owner res ≡ Some r) (resource_apart s (apart-history history) resource r next) (only_apart s (apart-history history) resource r next)

  wanted : waiting_of at.world.locks r.owner resource ≡ Some level
  wanted = rw (is.locks_is, found) waits

  nobody : holder_of at.world.locks r.owner resource level ≡ None
  nobody =
      rw (is.locks_is)
      (subst (λ res. holder_of s r.owner res level ≡ None) (resource_apart s (apart-history history) resource r next)
      (subst (λ w. IfSome w (λ wished. holder_of s r.owner r.resource wished ≡ None)) waits (way_apart s (apart-history history) resource r next)))

  wants : is_begin resource level ≡ true → begins_by r.owner resource r ≡ true
  wants high = rw (find_passes (is_of r.owner resource) s.requests r found, waits, high) refl

  begins : BeginsWell at r.owner resource level
  begins high =
      absurd (ends.rests r.owner resource (begins_told r.owner resource shape file history ends.legal (found_any (is_of r.owner resource) (begins_by r.owner resource) r (wants high) s.requests found)))

  lives : IsOfCome history r
  lives = all_found (IsOfCome history) (is_of r.owner resource) s.requests r (All-from_recursion (IsOfCome history) s.requests (come_legal shape file history ends.legal)) found

  grant_meets : MeetsGuard at r.owner (Grant resource level)
  grant_meets = record {
    alive = is.alive_is r.owner ∙ sym lives.0 ∙ alive_apart s (apart-history history) resource r next;
    guard = record { wanted = wanted; beside = beside_all at.world (requests_true shape file history) r.owner resource level nobody; begins = begins };
  }

  pub ends_grant : Ends shape file (happens r.owner (Grant resource level) false ∷ history)
  ends_grant = ends_on shape file history r.owner (Grant resource level) false ends grant_meets (rests_after history r.owner (Grant resource level) false refl)

-- The grants on one resource.
pub record GrantsEnd (shape : Shape) (file : View) (later : LockState) (after : History) : Type 0 where
  pub ends : Ends shape file after
  pub locks : later ≡ locks_of after

module _ (shape : Shape) (file : View) where
  pub grants_end : (resource : Resource) (s later : LockState) (grants : List Event) → GrantedOn resource s grants later → (history : History) → Ends shape file history → s ≡ locks_of history
      → GrantsEnd shape file later (lengthened history grants)
  grants_end resource _ _ _ (ended s later grants none same empty) history ends is = rw empty (record { ends = ends; locks = same ∙ is })
  grants_end resource _ _ _ (granted s later grants rest r level next waits made more) history ends is =
      rw made
      (grants_end resource (after_grant s r.owner r.resource) later rest more (happens r.owner (Grant resource level) false ∷ history)
      (ends_grant shape file history ends resource r level (rw is at next) waits)
      (rw is (step_apart (locks_of history) (apart-history history) resource r level (rw is at next) waits)))

  -- The grants on several resources.
  pub are_end : (resources : List Resource) (s : LockState) (grants : List Event) → AreGrants resources s grants → (history : History) → Ends shape file history → s ≡ locks_of history
      → Ends shape file (lengthened history grants)
  are_end [] s grants are history ends is = rw are ends
  are_end (resource ∷ others) s grants (first, rest, later, split, on, more) history ends is =
      let one = grants_end resource s later first on history ends is in
      rw (split, lengthened_append history first rest) (are_end others later rest more (lengthened history first) one.ends one.locks)
