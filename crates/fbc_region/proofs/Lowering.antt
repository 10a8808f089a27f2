-- What a region keeps as an owner lowers its level, and as grants follow.
use Rattle.std.proofs.Common.{◌≡◌, ◌≢◌, ◌∙◌, ap, ℕ, ◌+◌, ◌≤◌, Bool, true, false, not, cond, List, [], ◌∷◌, ◌++◌, map, length, append-nil, append_assoc, Option, Some, None, sym, subst, refl, arith}
use Rattle.std.specs.List.{AllByRecursion, filter, find}
use Rattle.std.specs.Option.{option_map_or}
use Rattle.fbc_levels.specs.declared.levels.Level.{Level}
use Rattle.fbc_levels.specs.declared.levels.Level.TheVariants.{Free, Null, Sr, Pr, Sw, Pw, Ex}
use Rattle.fbc_levels.specs.declared.resources.Request.{Request}
use Rattle.fbc_levels.specs.declared.resources.Resource.{Resource}
use Rattle.fbc_levels.specs.Levels.{join}
use Rattle.fbc_levels.specs.LockState.{LockState, IsLawful, granted_of, is_of}
use Rattle.fbc_lock_table.specs.Effects.{entered, lowered, with_granted}
use Rattle.fbc_legal.specs.Lives as lives
use Rattle.fbc_legal.specs.Lives.{entered_step, living}
use Rattle.fbc_world.specs.declared.events.Act.TheVariants.{Lower}
use Rattle.fbc_world.specs.declared.events.Event.{Event}
use Rattle.fbc_world.specs.History.{History, Recording, recorded}
use Rattle.fbc_world.specs.Locks.{lowered_to}
use Rattle.fbc_region.specs.Adding.{Adds, UsesRoom, by}
use Rattle.fbc_region.specs.Granting.{AddsWithGrants, GrantedOn, waits_in}
use Rattle.fbc_region.specs.Kept.{IsKept, IsOfCome}
use Rattle.fbc_region.specs.Shared.{HasRoom, locks_in}
use Rattle.fbc_region.proofs.Grown.{GoesOn, come_map, grants_follow, recorded_adds}
use Rattle.fbc_region.proofs.Keeping.{kept_still, room_still}
use Rattle.fbc_region.proofs.Waiting.{few_wait}

-- With the request that the owner has, a lowering is the one of a history.
lower_found : (s : LockState) (owner : ℕ) (resource : Resource) (level : Level) (found : Option Request) → find (is_of owner resource) s.requests ≡ found
    → join (option_map_or (λ (r : Request). r.granted) found Free) level ≡ option_map_or (λ (r : Request). r.granted) found Free → level ≢ Free → entered s.requests owner resource 0 ≡ s.requests
lower_found s owner resource level (Some r) is part some = rw is refl
lower_found s owner resource level None is part some = absurd (some (free level part)) where
  free : (l : Level) → join Free l ≡ Free → l ≡ Free
  free Free is' = refl
  free Null is' = absurd cc
  free Sr is' = absurd cc
  free Pr is' = absurd cc
  free Sw is' = absurd cc
  free Pw is' = absurd cc
  free Ex is' = absurd cc

module _ (s : LockState) (owner : ℕ) (resource : Resource) where
  same_entered : (level : Level) → join (granted_of s owner resource) level ≡ granted_of s owner resource → level ≢ Free → entered s.requests owner resource 0 ≡ s.requests
  same_entered level part some = lower_found s owner resource level (find (is_of owner resource) s.requests) refl part some

  with_level : (level : Level) → join (granted_of s owner resource) level ≡ granted_of s owner resource → level ≢ Free
      → record s { requests = map (with_granted owner resource level) s.requests } ≡ record s { requests = map (with_granted owner resource level) (entered s.requests owner resource 0) }
  with_level level part some = ap (λ rs. record s { requests = map (with_granted owner resource level) rs }) (sym (same_entered level part some))

  pub lowered_same : (level : Level) → join (granted_of s owner resource) level ≡ granted_of s owner resource → lowered s owner resource level ≡ lowered_to s owner resource level
  lowered_same Free part = refl
  lowered_same Null part = with_level Null part (λ is. cc)
  lowered_same Sr part = with_level Sr part (λ is. cc)
  lowered_same Pr part = with_level Pr part (λ is. cc)
  lowered_same Sw part = with_level Sw part (λ is. cc)
  lowered_same Pw part = with_level Pw part (λ is. cc)
  lowered_same Ex part = with_level Ex part (λ is. cc)

pub come_filter : (h : History) (p : Request → Bool) (rs : List Request) → AllByRecursion (IsOfCome h) rs → AllByRecursion (IsOfCome h) (filter p rs)
come_filter h p [] all = tt
come_filter h p (r ∷ rs) all = go (p r) (come_filter h p rs all.1) where
  go : (b : Bool) → AllByRecursion (IsOfCome h) (filter p rs) → AllByRecursion (IsOfCome h) (cond b (r ∷ filter p rs) (filter p rs))
  go true rest = (all.0, rest)
  go false rest = rest

pub come_lowered : (h : History) (s : LockState) (owner : ℕ) (resource : Resource) (level : Level) → AllByRecursion (IsOfCome h) s.requests → AllByRecursion (IsOfCome h) (lowered s owner resource level).requests
come_lowered h s owner resource Free come = come_filter h (λ r. not (is_of owner resource r)) s.requests come
come_lowered h s owner resource _ come = come_map h (with_granted owner resource _) (λ x. refl) (λ x. refl) s.requests come

-- After grants.
module _ (before after : Recording) (table later : LockState) (resource : Resource) (grants : List Event) (k : IsKept before table) (lawful : IsLawful table)
    (adds : Adds before after grants) (are : GrantedOn resource table grants later) (used : before.spare + waits_in later ≤ after.spare + waits_in table) where
  goes : GoesOn table later (recorded before) (recorded after)
  goes = rw (recorded_adds before after grants adds.longer) (grants_follow resource table later grants are lawful (recorded before) (record { requests = k.requests; come = k.come }))

  same_living : length (living (recorded after)) ≡ length (living (recorded before))
  same_living = ap length goes.same.living_is

  pub room_grants : UsesRoom before after 8
  room_grants n room = omega (arith, same_living, few_wait table (recorded before) lawful k.come, used, k.few, room)

  pub kept_grants : HasRoom before 8 → IsKept after later
  kept_grants room = record {
    requests = goes.follows.requests;
    within = omega (arith, k.within, goes.same.entered_is);
    few = omega (arith, same_living, k.few);
    aside = room_grants 0 (omega (arith, room));
    come = goes.follows.come;
    living_came = λ owner alive. omega (arith, goes.same.entered_is, k.living_came owner (sym (goes.same.alive_is owner) ∙ alive));
  }

pub room_to_grant : (before : Recording) (table : LockState) → IsKept before table → IsLawful table → HasRoom before 8 → waits_in table ≤ before.spare
room_to_grant before table k lawful room = omega (arith, few_wait table (recorded before) lawful k.come, k.few, room)

pub uses_both : (first second third : Recording) → UsesRoom first second 1 → UsesRoom second third 8 → UsesRoom first third 9
uses_both first second third one eight n room = eight n (one (8 + n) (omega (arith, room)))

-- A lowering.
module _ (before mid : Recording) (table : LockState) (owner : ℕ) (resource : Resource) (level : Level) (k : IsKept before table)
    (part : join (granted_of table owner resource) level ≡ granted_of table owner resource)
    (events : mid.events ≡ before.events ++ by owner (Lower resource level) ∷ []) (spare : mid.spare + 1 ≡ before.spare) where
  pub kept_lowered : HasRoom before 9 → IsKept mid (lowered table owner resource level)
  kept_lowered room =
      kept_still before mid owner (Lower resource level) refl events table (lowered table owner resource level) k spare (omega (arith, room)) (lowered_same table owner resource level part)
      (come_lowered (recorded before) table owner resource level k.come)

  pub room_lowered : UsesRoom before mid 1
  room_lowered = room_still before mid owner (Lower resource level) refl events spare

  pub place_lowered : HasRoom before 9 → HasRoom mid 8
  place_lowered room = room_lowered 8 room

-- A step's own event and its grants together.
pub adds_both : (before mid after : Recording) (own : Event) (grants : List Event) → mid.events ≡ before.events ++ own ∷ [] → mid.shape ≡ before.shape → Adds mid after grants → Adds before after (own ∷ grants)
adds_both before mid after own grants events shape adds = record {
  longer = adds.longer ∙ ap (λ es. es ++ grants) events ∙ append_assoc before.events (own ∷ []) grants;
  shape = adds.shape ∙ shape;
}

pub with_one_grant : (before mid after : Recording) (table later : LockState) (owner : ℕ) (resource : Resource) (level : Level) → table ≡ locks_in before
    → join (granted_of table owner resource) level ≡ granted_of table owner resource
    → mid.events ≡ before.events ++ by owner (Lower resource level) ∷ [] → mid.shape ≡ before.shape
    → (grants : List Event) × Adds mid after grants × GrantedOn resource (lowered table owner resource level) grants later
    → AddsWithGrants before after (by owner (Lower resource level)) (resource ∷ [])
with_one_grant before mid after table later owner resource level is part events shape made = record {
  grants = made.0;
  adds = adds_both before mid after (by owner (Lower resource level)) made.0 events shape made.1;
  are = (made.0, [], later, sym (append-nil made.0), subst (λ s. GrantedOn resource s made.0 later) (lowered_same table owner resource level part ∙ ap (λ s. lowered_to s owner resource level) is) made.2, refl);
}

-- A lowering and its grants, as the ledger sees them.
module _ (given before mid after : Recording) (table later : LockState) (owner : ℕ) (resource : Resource) (level : Level) (seen : before ≡ given) (k : IsKept before table)
    (part : join (granted_of (locks_in given) owner resource) level ≡ granted_of (locks_in given) owner resource) (room : HasRoom given 9)
    (low : LockState) (is : low ≡ lowered table owner resource level)
    (events : mid.events ≡ before.events ++ by owner (Lower resource level) ∷ []) (shape : mid.shape ≡ before.shape) (spare : mid.spare + 1 ≡ before.spare) (lawful : IsLawful low) where
  part_here : join (granted_of table owner resource) level ≡ granted_of table owner resource
  part_here = subst (λ s. join (granted_of s owner resource) level ≡ granted_of s owner resource) (sym (k.requests ∙ ap locks_in seen)) part

  room_here : HasRoom before 9
  room_here = subst (λ j. HasRoom j 9) (sym seen) room

  kept_mid : IsKept mid low
  kept_mid = rw is (kept_lowered before mid table owner resource level k part_here events spare room_here)

  room_mid : HasRoom mid 8
  room_mid = place_lowered before mid table owner resource level k part_here events spare room_here

  pub few_in_lower : lives.entered (recorded mid) ≤ 65536
  few_in_lower = kept_mid.within

  pub room_in_lower : waits_in low ≤ mid.spare
  room_in_lower = room_to_grant mid low kept_mid lawful room_mid

  module _ (made : (grants : List Event) × Adds mid after grants × GrantedOn resource low grants later) (used : mid.spare + waits_in later ≤ after.spare + waits_in low) where
    pub kept_in_lower : IsKept after later
    kept_in_lower = kept_grants mid after low later resource made.0 kept_mid lawful made.1 made.2 used room_mid

    pub adds_in_lower : AddsWithGrants given after (by owner (Lower resource level)) (resource ∷ [])
    adds_in_lower =
        subst (λ j. AddsWithGrants j after (by owner (Lower resource level)) (resource ∷ [])) seen
        (with_one_grant before mid after table later owner resource level k.requests part_here events shape (made.0, made.1, subst (λ s. GrantedOn resource s made.0 later) is made.2))

    pub uses_in_lower : UsesRoom given after 9
    uses_in_lower =
        subst (λ j. UsesRoom j after 9) seen
        (uses_both before mid after (room_lowered before mid table owner resource level k part_here events spare) (room_grants mid after low later resource made.0 kept_mid lawful made.1 made.2 used))
