-- The loop of grants.
use Rattle.std.proofs.Common.{◌≡◌, ◌∙◌, ap, ℕ, ◌+◌, ◌≤◌, List, [], ◌∷◌, ◌++◌, append-nil, append_assoc, Option, Some, None, sym, subst, refl, arith}
use Rattle.std.specs.Option.{option_map}
use Rattle.fbc_legal.specs.Lives.{entered}
use Rattle.fbc_levels.specs.declared.levels.Level.{Level}
use Rattle.fbc_levels.specs.declared.resources.Request.{Request}
use Rattle.fbc_levels.specs.declared.resources.Resource.{Resource}
use Rattle.fbc_levels.specs.LockState.{LockState, IsLawful, granted_of}
use Rattle.fbc_lock_table.specs.Effects.{after_grant}
use Rattle.fbc_owner_queues.specs.Grants.{next_grant, with_grant}
use Rattle.fbc_world.specs.declared.events.Act.TheVariants.{Grant}
use Rattle.fbc_world.specs.declared.events.Event.{Event}
use Rattle.fbc_world.specs.History.{Recording, recorded}
use Rattle.fbc_region.specs.Adding.{Adds, by}
use Rattle.fbc_region.specs.Granting.{GrantedOn, ended, granted, waits_in}
use Rattle.fbc_region.proofs.Granting.{fewer_next, lawful_next, level_next}
use Rattle.fbc_region.proofs.Pushed.{recorded_push}

-- The grants so far, and that those still to come follow them.
pub record GrantsSoFar (resource : Resource) (first : LockState) (before : Recording) (now : LockState) (journal : Recording) : Type 0 where
  pub grants : List Event
  pub adds : Adds before journal grants
  pub follow : (rest : List Event) (later : LockState) → GrantedOn resource now rest later → GrantedOn resource first (grants ++ rest) later

pub record Granting (resource : Resource) (first : LockState) (before : Recording) (now : LockState) (journal : Recording) : Type 0 where
  pub lawful : IsLawful now
  pub few : entered (recorded journal) ≤ 65536
  pub room : waits_in now ≤ journal.spare
  pub used : before.spare + waits_in now ≤ journal.spare + waits_in first
  pub so_far : GrantsSoFar resource first before now journal

pub granting_starts : (resource : Resource) (s : LockState) (journal : Recording) → IsLawful s → entered (recorded journal) ≤ 65536 → waits_in s ≤ journal.spare → Granting resource s journal s journal
granting_starts resource s journal lawful few room = record {
  lawful = lawful;
  few = few;
  room = room;
  used = omega arith;
  so_far = record { grants = []; adds = record { longer = sym (append-nil journal.events); shape = refl }; follow = λ rest later is. is };
}

module _ (resource : Resource) (first : LockState) (before : Recording) (now : LockState) (journal : Recording) (g : Granting resource first before now journal) where
  -- One grant more.
  pub granting_goes : (r : Request) (level : Level) (after : LockState) (longer : Recording) → next_grant now resource ≡ Some r → after ≡ after_grant now r.owner r.resource
      → level ≡ granted_of after r.owner resource → longer.events ≡ journal.events ++ by r.owner (Grant resource level) ∷ [] → longer.shape ≡ journal.shape → longer.spare + 1 ≡ journal.spare
      → Granting resource first before after longer
  granting_goes r level after longer next is at events shape spare = record {
    lawful = rw is (lawful_next now g.lawful resource r next);
    few = omega (arith, ap entered (recorded_push journal longer (by r.owner (Grant resource level)) events), g.few);
    room = omega (arith, less, spare, g.room);
    used = omega (arith, less, spare, g.used);
    so_far = record {
      grants = g.so_far.grants ++ by r.owner (Grant resource level) ∷ [];
      adds = record {
        longer = events ∙ ap (λ es. es ++ by r.owner (Grant resource level) ∷ []) g.so_far.adds.longer ∙ append_assoc before.events g.so_far.grants (by r.owner (Grant resource level) ∷ []);
        shape = shape ∙ g.so_far.adds.shape;
      };
      follow = λ rest later more.
          subst (λ es. GrantedOn resource first es later) (sym (append_assoc g.so_far.grants (by r.owner (Grant resource level) ∷ []) rest))
          (g.so_far.follow (by r.owner (Grant resource level) ∷ rest) later
          (granted now later (by r.owner (Grant resource level) ∷ rest) rest r level next waited refl (subst (λ s. GrantedOn resource s rest later) is more)));
    };
  } where
    less : waits_in after + 1 ≤ waits_in now
    less = rw is (fewer_next now g.lawful resource r next)

    waited : r.waiting ≡ Some level
    waited = level_next now g.lawful resource r next ∙ ap Some (sym (at ∙ ap (λ s. granted_of s r.owner resource) is))

  pub fewer_goes : (r : Request) (after : LockState) → next_grant now resource ≡ Some r → after ≡ after_grant now r.owner r.resource → waits_in after + 1 ≤ waits_in now
  fewer_goes r after next is = rw is (fewer_next now g.lawful resource r next)

  -- The end.
  pub granting_ends : (after : LockState) → next_grant now resource ≡ None → after ≡ now → (grants : List Event) × Adds before journal grants × GrantedOn resource first grants after
  granting_ends after none is =
      (g.so_far.grants, g.so_far.adds, subst (λ es. GrantedOn resource first es after) (append-nil g.so_far.grants) (g.so_far.follow [] after (ended now after [] none is refl)))

-- What a call of the queues granted, by its answer.
pub record IsNext (s : LockState) (resource : Resource) (owner : ℕ) (after : LockState) : Type 0 where
  pub request : Request
  pub next : next_grant s resource ≡ Some request
  pub owner_is : request.owner ≡ owner
  pub after_is : after ≡ after_grant s request.owner request.resource

pub is_next : (s : LockState) (resource : Resource) (owner : ℕ) (after : LockState) → Some owner ≡ option_map (λ (r : Request). r.owner) (next_grant s resource)
    → after ≡ with_grant s (next_grant s resource) → IsNext s resource owner after
is_next s resource owner after answer is = go (next_grant s resource) refl answer is where
  go : (found : Option Request) → next_grant s resource ≡ found → Some owner ≡ option_map (λ (r : Request). r.owner) found → after ≡ with_grant s found → IsNext s resource owner after
  go None same answer' is' = absurd cc
  go (Some r) same answer' is' = record { request = r; next = same; owner_is = cc; after_is = is' }

pub is_none : (s : LockState) (resource : Resource) (after : LockState) → None ≡ option_map (λ (r : Request). r.owner) (next_grant s resource)
    → after ≡ with_grant s (next_grant s resource) → (next_grant s resource ≡ None) × (after ≡ s)
is_none s resource after answer is = go (next_grant s resource) answer is where
  go : (found : Option Request) → None ≡ option_map (λ (r : Request). r.owner) found → after ≡ with_grant s found → (found ≡ None) × (after ≡ s)
  go None answer' is' = (refl, is')
  go (Some r) answer' is' = absurd cc

module _ (resource : Resource) (first : LockState) (before : Recording) (now : LockState) (journal : Recording) (g : Granting resource first before now journal) where
  pub granting_next : (owner : ℕ) (level : Level) (after : LockState) (longer : Recording) → IsNext now resource owner after → level ≡ granted_of after owner resource
      → longer.events ≡ journal.events ++ by owner (Grant resource level) ∷ [] → longer.shape ≡ journal.shape → longer.spare + 1 ≡ journal.spare → Granting resource first before after longer
  granting_next owner level after longer n at events shape spare =
      granting_goes resource first before now journal g n.request level after longer n.next n.after_is (rw n.owner_is at) (rw n.owner_is events) shape spare

  pub fewer_next_goes : (owner : ℕ) (after : LockState) → IsNext now resource owner after → waits_in after + 1 ≤ waits_in now
  fewer_next_goes owner after n = fewer_goes resource first before now journal g n.request after n.next n.after_is
