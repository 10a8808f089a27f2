-- What a region keeps as it takes away what a dead owner left.
use Rattle.std.proofs.Common.{◌≡◌, ◌∙◌, ap, ℕ, ◌+◌, ◌≤◌, not, ◌==◌, List, [], ◌∷◌, ◌++◌, length, sym, subst, refl, arith}
use Rattle.fbc_levels.specs.declared.resources.Request.{Request}
use Rattle.fbc_levels.specs.LockState.{LockState, IsLawful}
use Rattle.fbc_legal.specs.Lives.{living}
use Rattle.fbc_world.specs.declared.asks.Ask.{Ask}
use Rattle.fbc_world.specs.declared.events.Act.TheVariants.{Reap}
use Rattle.fbc_world.specs.declared.events.Event.{Event}
use Rattle.fbc_world.specs.History.{Recording, recorded}
use Rattle.fbc_world.specs.Locks.{without_owner}
use Rattle.fbc_region.specs.Adding.{Adds, UsesRoom, by}
use Rattle.fbc_region.specs.Granting.{AddsWithGrants, AreGrants, Purged, resources_of, waits_in}
use Rattle.fbc_region.specs.Kept.{IsKept}
use Rattle.fbc_region.specs.Shared.{HasRoom, locks_in}
use Rattle.fbc_region.proofs.Grown.{GoesOn, recorded_adds}
use Rattle.fbc_region.proofs.Keeping.{kept_still, living_same}
use Rattle.fbc_region.proofs.Lowering.{adds_both, come_filter}
use Rattle.fbc_region.proofs.Purging.{Comes, purge_comes}
use Rattle.fbc_region.proofs.Waiting.{few_wait}

pub kept_goes : (before after : Recording) (table later : LockState) → IsKept before table → GoesOn table later (recorded before) (recorded after)
    → length (living (recorded before)) ≤ after.spare → IsKept after later
kept_goes before after table later k goes room = record {
  requests = goes.follows.requests;
  within = omega (arith, k.within, goes.same.entered_is);
  few = omega (arith, ap length goes.same.living_is, k.few);
  aside = omega (arith, ap length goes.same.living_is, room);
  come = goes.follows.come;
  living_came = λ owner alive. omega (arith, goes.same.entered_is, k.living_came owner (sym (goes.same.alive_is owner) ∙ alive));
}

module _ (given before mid after : Recording) (table later : LockState) (owner dead : ℕ) (ask : Ask) (seen : before ≡ given) (k : IsKept before table) (room : HasRoom given 9)
    (events : mid.events ≡ before.events ++ by owner (Reap dead ask) ∷ []) (shape : mid.shape ≡ before.shape) (spare : mid.spare + 1 ≡ before.spare) (lawful : IsLawful table) where
  room_here : HasRoom before 9
  room_here = subst (λ j. HasRoom j 9) (sym seen) room

  -- As if all that the dead owner left went at once.
  kept_mid : IsKept mid (without_owner table dead)
  kept_mid =
      kept_still before mid owner (Reap dead ask) refl events table (without_owner table dead) k spare (omega (arith, room_here)) refl
      (come_filter (recorded before) (λ (r : Request). not (r.owner == dead)) table.requests k.come)

  few_wait_here : waits_in table ≤ length (living (recorded before))
  few_wait_here = few_wait table (recorded before) lawful k.come

  same_mid : length (living (recorded mid)) ≡ length (living (recorded before))
  same_mid = living_same before mid owner (Reap dead ask) refl events

  pub room_in_reap : waits_in table ≤ mid.spare
  room_in_reap = omega (arith, few_wait_here, spare, room_here, k.few)

  module _ (made : (grants : List Event) × Adds mid after grants × Purged dead table grants later) (used : mid.spare + waits_in later ≤ after.spare + waits_in table) where
    comes : Comes dead table later (recorded mid) made.0
    comes = purge_comes dead table later made.0 made.2 lawful (recorded mid) (record { requests = kept_mid.requests; come = kept_mid.come })

    goes_here : GoesOn (without_owner table dead) later (recorded mid) (recorded after)
    goes_here = rw (recorded_adds mid after made.0 made.1.longer) comes.goes

    same_after : length (living (recorded after)) ≡ length (living (recorded before))
    same_after = ap length goes_here.same.living_is ∙ same_mid

    uses_here : UsesRoom before after 9
    uses_here n more = omega (arith, few_wait_here, used, spare, k.few, same_after, more)

    pub kept_in_reap : IsKept after later
    kept_in_reap = kept_goes mid after (without_owner table dead) later kept_mid goes_here (omega (arith, uses_here 0 (omega (arith, room_here)), same_after, same_mid))

    pub adds_in_reap : AddsWithGrants given after (by owner (Reap dead ask)) (resources_of (locks_in given) dead)
    adds_in_reap = subst (λ j. AddsWithGrants j after (by owner (Reap dead ask)) (resources_of (locks_in j) dead)) seen (record {
      grants = made.0;
      adds = adds_both before mid after (by owner (Reap dead ask)) made.0 events shape made.1;
      are = subst (λ s. AreGrants (resources_of s dead) (without_owner s dead) made.0) k.requests comes.are;
    })

    pub uses_in_reap : UsesRoom given after 9
    uses_in_reap = subst (λ j. UsesRoom j after 9) seen uses_here
