-- One grant: what it grants, and who waits after it.
use Rattle.std.proofs.Common.{◌≡◌, ◌∙◌, ap, ℕ, ◌+◌, ◌≤◌, Bool, true, false, ◌&&◌, cond, if◌then◌else◌, List, [], ◌∷◌, map, length, Option, Some, None, IfSome, is_some, is_none, unwrap_or, subst, refl, arith}
use Rattle.std.specs.List.{All, filter, find}
use Rattle.std.specs.Option.{option_map, option_map_or}
use Rattle.std.proofs.lemmas.List.Elements.{All-head, All-tail}
use Rattle.fbc_levels.specs.declared.levels.Level.{Level}
use Rattle.fbc_levels.specs.declared.resources.Request.{Request}
use Rattle.fbc_levels.specs.declared.resources.Resource.{Resource}
use Rattle.fbc_levels.specs.LockState.{LockState, IsLawful, granted_of, holder_of, is_of, request_of}
use Rattle.fbc_levels.specs.Resources.{is_same_resource}
use Rattle.fbc_lock_table.specs.Effects.{MayGrant, after_grant, granting}
use Rattle.fbc_lock_table.proofs.Lawful.{wait_granted_lawful}
use Rattle.fbc_lock_table.proofs.Pairs.{find-only}
use Rattle.fbc_lock_table.proofs.Ways.{is_of-self, same_resource}
use Rattle.fbc_owner_queues.specs.Grants.{is_clear, is_grantable, next_grant}
use Rattle.fbc_world.proofs.Apart.{IsApart, once}
use Rattle.fbc_world.proofs.Found.{find_map, find_passes}
use Rattle.fbc_region.specs.Granting.{is_live_wait, waits_in}

-- What holds of all holds of the one that is found.
pub all_found : {X : Type 0} (P : X → Type 0) (p : X → Bool) (xs : List X) (x : X) → All P xs → find p xs ≡ Some x → P x
all_found P p [] x all is = absurd cc
all_found {X} P p (y ∷ ys) x all is = go (p y) is (All-head P y ys all) (all_found P p ys x (All-tail P y ys all)) where
  go : (b : Bool) → cond b (Some y) (find p ys) ≡ Some x → P y → (find p ys ≡ Some x → P x) → P x
  go true is' here rest = let same : y ≡ x = cc in subst P same here
  go false is' here rest = rest is'

-- Who waits after a grant waited before it.
waits_before : (o : ℕ) (res : Resource) (r : Request) → is_live_wait (granting o res r) ≡ true → is_live_wait r ≡ true
waits_before o res r = go (is_of o res r) r.alive r.waiting where
  go : (b alive : Bool) (w : Option Level) → alive && is_some (if b then None else w) ≡ true → alive && is_some w ≡ true
  go true true w is = absurd cc
  go true false w is = is
  go false alive w is = is

counted : (a b : Bool) (n m : ℕ) (x y : Request) (xs ys : List Request) → (a ≡ true → b ≡ true) → length xs ≤ length ys → length (cond a (x ∷ xs) xs) ≤ length (cond b (y ∷ ys) ys)
counted true true n m x y xs ys keeps less = omega (arith, less)
counted true false n m x y xs ys keeps less = absurd (let there : false ≡ true = keeps refl in cc)
counted false true n m x y xs ys keeps less = omega (arith, less)
counted false false n m x y xs ys keeps less = less

no_more : (o : ℕ) (res : Resource) (rs : List Request) → length (filter is_live_wait (map (granting o res) rs)) ≤ length (filter is_live_wait rs)
no_more o res [] = omega arith
no_more o res (r ∷ rs) = counted (is_live_wait (granting o res r)) (is_live_wait r) 0 0 (granting o res r) r _ _ (waits_before o res r) (no_more o res rs)

counted_less : (a b : Bool) (x y : Request) (xs ys : List Request) → (a ≡ true → b ≡ true) → length xs + 1 ≤ length ys → length (cond a (x ∷ xs) xs) + 1 ≤ length (cond b (y ∷ ys) ys)
counted_less true true x y xs ys keeps less = omega (arith, less)
counted_less true false x y xs ys keeps less = absurd (let there : false ≡ true = keeps refl in cc)
counted_less false true x y xs ys keeps less = omega (arith, less)
counted_less false false x y xs ys keeps less = less

-- A grant to one that is found leaves fewer that wait.
fewer : (p : Request → Bool) → ((x : Request) → p x ≡ true → is_live_wait x ≡ true) → (rs : List Request) (r : Request) → find p rs ≡ Some r
    → length (filter is_live_wait (map (granting r.owner r.resource) rs)) + 1 ≤ length (filter is_live_wait rs)
fewer p waits [] r is = absurd cc
fewer p waits (q ∷ rs) r is = step (p q) refl is (fewer p waits rs r) where
  FewerBy : Request → Type 0
  FewerBy t = length (filter is_live_wait (map (granting t.owner t.resource) (q ∷ rs))) + 1 ≤ length (filter is_live_wait (q ∷ rs))

  both_false : (a : Bool) → a && false ≡ false
  both_false true = refl
  both_false false = refl

  served : is_live_wait (granting q.owner q.resource q) ≡ false
  served = rw (is_of-self q) (both_false q.alive)

  here : is_live_wait q ≡ true → FewerBy q
  here waited = lost (is_live_wait (granting q.owner q.resource q)) (is_live_wait q) served waited (no_more q.owner q.resource rs) where
    lost : (a b : Bool) → a ≡ false → b ≡ true → length (filter is_live_wait (map (granting q.owner q.resource) rs)) ≤ length (filter is_live_wait rs)
        → length (cond a (granting q.owner q.resource q ∷ filter is_live_wait (map (granting q.owner q.resource) rs)) (filter is_live_wait (map (granting q.owner q.resource) rs))) + 1
        ≤ length (cond b (q ∷ filter is_live_wait rs) (filter is_live_wait rs))
    lost true b isnt is' less = absurd cc
    lost false true isnt is' less = omega (arith, less)
    lost false false isnt is' less = absurd cc

  step : (b : Bool) → p q ≡ b → cond b (Some q) (find p rs) ≡ Some r
      → (find p rs ≡ Some r → length (filter is_live_wait (map (granting r.owner r.resource) rs)) + 1 ≤ length (filter is_live_wait rs)) → FewerBy r
  step true can found rest = let same : q ≡ r = cc in subst FewerBy same (here (waits q can))
  step false can found rest =
      counted_less (is_live_wait (granting r.owner r.resource q)) (is_live_wait q) (granting r.owner r.resource q) q _ _ (waits_before r.owner r.resource q) (rest found)

-- What the test of a grant says.
both : (a b c : Bool) → (a && b && c) ≡ true → (a ≡ true) × (b ≡ true) × (c ≡ true)
both true true true is = (refl, refl, refl)
both true true false is = absurd cc
both true false c is = absurd cc
both false b c is = absurd cc

some_wait : (s : LockState) (w : Option Level) (owner : ℕ) (res : Resource) → option_map_or (λ level. is_none (holder_of s owner res level)) w false ≡ true
    → is_some w ≡ true
some_wait s None owner res is = absurd cc
some_wait s (Some level) owner res is = refl

free_way : (s : LockState) (w : Option Level) (owner : ℕ) (res : Resource) → option_map_or (λ level. is_none (holder_of s owner res level)) w false ≡ true
    → IfSome w (λ level. holder_of s owner res level ≡ None)
free_way s None owner res is = tt
free_way s (Some level) owner res is = none (holder_of s owner res level) is where
  none : (found : Option Request) → is_none found ≡ true → found ≡ None
  none None is' = refl
  none (Some r) is' = absurd cc

pub grantable_waits : (s : LockState) (resource : Resource) (r : Request) → is_grantable s resource r ≡ true → is_live_wait r ≡ true
grantable_waits s resource r is =
    let parts = both (is_same_resource r.resource resource) r.alive (is_clear s r) is in
    rw (parts.1, some_wait s r.waiting r.owner r.resource parts.2) refl

-- Each request is the one of its owner for its resource.
pub the_one : (s : LockState) → IsApart s → (owner : ℕ) (resource : Resource) → All (λ x. is_of owner resource x ≡ true → request_of s owner resource ≡ Some x) s.requests
the_one s apart owner resource = find-only (is_of owner resource) s.requests (once owner resource s.requests apart)

-- What is granted next, where no owner has two requests for one resource.
module _ (s : LockState) (apart : IsApart s) (resource : Resource) (r : Request) (next : next_grant s resource ≡ Some r) where
  parts : (is_same_resource r.resource resource ≡ true) × (r.alive ≡ true) × (is_clear s r ≡ true)
  parts = both (is_same_resource r.resource resource) r.alive (is_clear s r) (find_passes (is_grantable s resource) s.requests r next)

  pub resource_apart : r.resource ≡ resource
  resource_apart = same_resource r.resource resource parts.0

  pub alive_apart : r.alive ≡ true
  alive_apart = parts.1

  pub some_apart : is_some r.waiting ≡ true
  some_apart = some_wait s r.waiting r.owner r.resource parts.2

  pub way_apart : IfSome r.waiting (λ level. holder_of s r.owner r.resource level ≡ None)
  way_apart = free_way s r.waiting r.owner r.resource parts.2

  pub only_apart : request_of s r.owner r.resource ≡ Some r
  only_apart = all_found (λ x. is_of r.owner r.resource x ≡ true → request_of s r.owner r.resource ≡ Some x) (is_grantable s resource) s.requests r (the_one s apart r.owner r.resource) next (is_of-self r)

module _ (s : LockState) (lawful : IsLawful s) (resource : Resource) (r : Request) (next : next_grant s resource ≡ Some r) where
  pub same_next : r.resource ≡ resource
  same_next = resource_apart s lawful.apart resource r next

  pub only_next : request_of s r.owner r.resource ≡ Some r
  only_next = only_apart s lawful.apart resource r next

  pub may_next : MayGrant s r.owner r.resource
  may_next = rw only_next (way_apart s lawful.apart resource r next)

  pub lawful_next : IsLawful (after_grant s r.owner r.resource)
  lawful_next = wait_granted_lawful s r.owner r.resource may_next lawful

  pub fewer_next : waits_in (after_grant s r.owner r.resource) + 1 ≤ waits_in s
  fewer_next = fewer (is_grantable s resource) (grantable_waits s resource) s.requests r next

  found_after : request_of (after_grant s r.owner r.resource) r.owner r.resource ≡ Some (granting r.owner r.resource r)
  found_after = find_map (is_of r.owner r.resource) (granting r.owner r.resource) (λ x. refl) s.requests ∙ ap (option_map (granting r.owner r.resource)) only_next

  -- The level that is granted then is the one that was waited for.
  pub level_next : r.waiting ≡ Some (granted_of (after_grant s r.owner r.resource) r.owner resource)
  level_next = subst (λ res. r.waiting ≡ Some (granted_of (after_grant s r.owner r.resource) r.owner res)) same_next (rw found_after (rw (is_of-self r) (level r.waiting (some_apart s lawful.apart resource r next)))) where
    level : (w : Option Level) → is_some w ≡ true → w ≡ Some (unwrap_or w r.granted)
    level None is = absurd cc
    level (Some l) is = refl
