-- The loop of a purge.
use Rattle.std.proofs.Common.{◌≡◌, ◌∙◌, ap, ℕ, ◌+◌, ◌≤◌, ◌<◌, Bool, true, false, not, cond, List, [], ◌∷◌, ◌++◌, length, append-nil, append_assoc, Option, Some, None, sym, subst, refl, arith}
use Rattle.std.specs.List.{filter}
use Rattle.std.specs.Option.{option_map}
use Rattle.fbc_levels.specs.declared.resources.Request.{Request}
use Rattle.fbc_levels.specs.declared.resources.Resource.{Resource}
use Rattle.fbc_levels.specs.LockState.{LockState, IsDead, IsLawful, is_of}
use Rattle.fbc_lock_table.specs.Effects.{without}
use Rattle.fbc_owner_queues.specs.Grants.{first_of, without_request}
use Rattle.fbc_legal.specs.Lives.{entered}
use Rattle.fbc_world.specs.declared.events.Event.{Event}
use Rattle.fbc_world.specs.History.{Recording, recorded}
use Rattle.fbc_region.specs.Adding.{Adds}
use Rattle.fbc_region.specs.Granting.{GrantedOn, Purged, goes, is_live_wait, over, resources_of, waits_in}
use Rattle.fbc_region.proofs.Purging.{next_resources}
use Rattle.fbc_region.proofs.Shadow.{dead_stays, resources_stay}

-- The grants so far, and that those still to come follow them.
pub record PurgedSoFar (dead : ℕ) (first : LockState) (before : Recording) (now : LockState) (journal : Recording) : Type 0 where
  pub grants : List Event
  pub adds : Adds before journal grants
  pub follow : (rest : List Event) (later : LockState) → Purged dead now rest later → Purged dead first (grants ++ rest) later

pub record Purging (dead : ℕ) (first : LockState) (before : Recording) (now : LockState) (journal : Recording) : Type 0 where
  pub is_dead : IsDead now dead
  pub lawful : IsLawful now
  pub few : entered (recorded journal) ≤ 65536
  pub room : waits_in now ≤ journal.spare
  pub used : before.spare + waits_in now ≤ journal.spare + waits_in first
  pub so_far : PurgedSoFar dead first before now journal

-- The first request, as a call of the queues took it away.
pub record IsFirst (s : LockState) (dead : ℕ) (resource : Resource) (after : LockState) : Type 0 where
  pub request : Request
  pub first : first_of s dead ≡ Some request
  pub resource_is : request.resource ≡ resource
  pub after_is : after ≡ without s request.owner request.resource

pub is_first : (s : LockState) (dead : ℕ) (resource : Resource) (after : LockState) → Some resource ≡ option_map (λ (r : Request). r.resource) (first_of s dead)
    → after ≡ without_request s (first_of s dead) → IsFirst s dead resource after
is_first s dead resource after answer is = go (first_of s dead) refl answer is where
  go : (found : Option Request) → first_of s dead ≡ found → Some resource ≡ option_map (λ (r : Request). r.resource) found → after ≡ without_request s found → IsFirst s dead resource after
  go None same answer' is' = absurd cc
  go (Some r) same answer' is' = record { request = r; first = same; resource_is = cc; after_is = is' }

pub is_over : (s : LockState) (dead : ℕ) (after : LockState) → None ≡ option_map (λ (r : Request). r.resource) (first_of s dead)
    → after ≡ without_request s (first_of s dead) → (first_of s dead ≡ None) × (after ≡ s)
is_over s dead after answer is = go (first_of s dead) answer is where
  go : (found : Option Request) → None ≡ option_map (λ (r : Request). r.resource) found → after ≡ without_request s found → (found ≡ None) × (after ≡ s)
  go None answer' is' = (refl, is')
  go (Some r) answer' is' = absurd cc

-- With fewer requests no more wait.
no_more_wait : (q : Request → Bool) (rs : List Request) → length (filter is_live_wait (filter q rs)) ≤ length (filter is_live_wait rs)
no_more_wait q [] = omega arith
no_more_wait q (r ∷ rs) = go (q r) (is_live_wait r) refl (no_more_wait q rs) where
  go : (a b : Bool) → is_live_wait r ≡ b → length (filter is_live_wait (filter q rs)) ≤ length (filter is_live_wait rs)
      → length (filter is_live_wait (cond a (r ∷ filter q rs) (filter q rs))) ≤ length (cond b (r ∷ filter is_live_wait rs) (filter is_live_wait rs))
  go true true is less = rw is (omega (arith, less))
  go true false is less = rw is less
  go false true is less = omega (arith, less)
  go false false is less = less

pub waits_without : (s : LockState) (owner : ℕ) (resource : Resource) → waits_in (without s owner resource) ≤ waits_in s
waits_without s owner resource = no_more_wait (λ r. not (is_of owner resource r)) s.requests

module _ (dead : ℕ) (first : LockState) (before : Recording) (now : LockState) (journal : Recording) (p : Purging dead first before now journal) where
  pub purging_room : (resource : Resource) (after : LockState) → IsFirst now dead resource after → waits_in after ≤ journal.spare
  purging_room resource after f = omega (arith, ap waits_in f.after_is, waits_without now f.request.owner f.request.resource, p.room)

  -- One request less.
  module _ (resource : Resource) (after later : LockState) (longer : Recording) (f : IsFirst now dead resource after) (gone_dead : IsDead after dead)
      (made : (grants : List Event) × Adds journal longer grants × GrantedOn resource after grants later) where
    granted_here : GrantedOn f.request.resource (without now f.request.owner f.request.resource) made.0 later
    granted_here = rw f.resource_is (subst (λ s. GrantedOn resource s made.0 later) (rw f.resource_is at f.after_is) made.2)

    pub purging_goes : IsLawful later → entered (recorded longer) ≤ 65536 → journal.spare + waits_in later ≤ longer.spare + waits_in after → Purging dead first before later longer
    purging_goes lawful few used = record {
      is_dead = dead_stays dead resource after later made.0 made.2 gone_dead;
      lawful = lawful;
      few = few;
      room = omega (arith, used, less, p.room);
      used = omega (arith, used, less, p.used);
      so_far = record {
        grants = p.so_far.grants ++ made.0;
        adds = record {
          longer = made.1.longer ∙ ap (λ es. es ++ made.0) p.so_far.adds.longer ∙ append_assoc before.events p.so_far.grants made.0;
          shape = made.1.shape ∙ p.so_far.adds.shape;
        };
        follow = λ rest end more.
            subst (λ es. Purged dead first es end) (sym (append_assoc p.so_far.grants made.0 rest))
            (p.so_far.follow (made.0 ++ rest) end (goes now later end (made.0 ++ rest) made.0 rest f.request f.first granted_here refl more));
      };
    } where
      less : waits_in after ≤ waits_in now
      less = omega (arith, ap waits_in f.after_is, waits_without now f.request.owner f.request.resource)

    pub purging_fewer : length (resources_of later dead) < length (resources_of now dead)
    purging_fewer =
        omega (arith, ap length (next_resources dead now f.request p.lawful f.first), ap length (resources_stay dead resource after later made.0 made.2), ap (λ s. length (resources_of s dead)) f.after_is)

  pub purging_ends : (after : LockState) → first_of now dead ≡ None → after ≡ now → (grants : List Event) × Adds before journal grants × Purged dead first grants after
  purging_ends after none is =
      (p.so_far.grants, p.so_far.adds, subst (λ es. Purged dead first es after) (append-nil p.so_far.grants) (p.so_far.follow [] after (over now after [] none is refl)))

pub purging_starts : (dead : ℕ) (s : LockState) (journal : Recording) → IsDead s dead → IsLawful s → entered (recorded journal) ≤ 65536 → waits_in s ≤ journal.spare → Purging dead s journal s journal
purging_starts dead s journal is_dead lawful few room = record {
  is_dead = is_dead;
  lawful = lawful;
  few = few;
  room = room;
  used = omega arith;
  so_far = record { grants = []; adds = record { longer = sym (append-nil journal.events); shape = refl }; follow = λ rest later is. is };
}
