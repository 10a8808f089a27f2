-- Grants on a resource are the same without an owner that has no request for it.
use Rattle.std.proofs.Common.{◌≡◌, ◌∙◌, ap, ℕ, Bool, true, false, not, ◌==◌, ◌&&◌, cond, List, [], ◌∷◌, map, Option, Some, None, is_none, sym, subst, refl}
use Rattle.std.specs.List.{AllByRecursion, filter, find, list_any, reduce}
use Rattle.std.specs.Option.{option_map_or}
use Rattle.fbc_levels.specs.declared.levels.Level.{Level}
use Rattle.fbc_levels.specs.declared.resources.Request.{Request}
use Rattle.fbc_levels.specs.declared.resources.Resource.{Resource}
use Rattle.fbc_levels.specs.Levels.{is_compatible}
use Rattle.fbc_levels.specs.LockState.{LockState, IsDead, IsLawful, holder_of, is_alive_of, lesser, stands_in_way}
use Rattle.fbc_levels.specs.Resources.{is_same_resource}
use Rattle.fbc_lock_table.specs.Effects.{after_grant, granting}
use Rattle.fbc_lock_table.proofs.Ways.{same_resource}
use Rattle.fbc_owner_queues.specs.Grants.{is_by, is_clear, is_grantable, next_grant}
use Rattle.fbc_world.specs.declared.events.Event.{Event}
use Rattle.fbc_world.specs.Locks.{without_owner}
use Rattle.fbc_region.specs.Granting.{GrantedOn, ended, granted, resources_of}
use Rattle.fbc_region.proofs.Granting.{lawful_next}

abbrev Passes : {X : Type 0} → (X → Bool) → (X → Bool) → X → Type 0
Passes p q x = p x ≡ true → q x ≡ true

filter_filter : {X : Type 0} (p q : X → Bool) (xs : List X) → AllByRecursion (Passes p q) xs → filter p (filter q xs) ≡ filter p xs
filter_filter p q [] all = refl
filter_filter {X} p q (x ∷ xs) all = go (p x) refl (q x) refl (filter_filter p q xs all.1) where
  go : (a : Bool) → p x ≡ a → (b : Bool) → q x ≡ b → filter p (filter q xs) ≡ filter p xs → filter p (cond b (x ∷ filter q xs) (filter q xs)) ≡ cond a (x ∷ filter p xs) (filter p xs)
  go true is true also rest = rw (is, rest) refl
  go true is false also rest = absurd (let there : q x ≡ true = all.0 is in cc)
  go false is true also rest = rw (is, rest) refl
  go false is false also rest = rest

find_filter : {X : Type 0} (p q : X → Bool) (xs : List X) → AllByRecursion (Passes p q) xs → find p (filter q xs) ≡ find p xs
find_filter p q [] all = refl
find_filter {X} p q (x ∷ xs) all = go (p x) refl (q x) refl (find_filter p q xs all.1) where
  go : (a : Bool) → p x ≡ a → (b : Bool) → q x ≡ b → find p (filter q xs) ≡ find p xs → find p (cond b (x ∷ filter q xs) (filter q xs)) ≡ cond a (Some x) (find p xs)
  go true is true also rest = rw is refl
  go true is false also rest = absurd (let there : q x ≡ true = all.0 is in cc)
  go false is true also rest = rw (is, rest) refl
  go false is false also rest = rest

find_alike : {X : Type 0} (p q : X → Bool) → ((x : X) → p x ≡ q x) → (xs : List X) → find p xs ≡ find q xs
find_alike p q same [] = refl
find_alike {X} p q same (x ∷ xs) = rw (same x) (go (q x) (find_alike p q same xs)) where
  go : (b : Bool) → find p xs ≡ find q xs → cond b (Some x) (find p xs) ≡ cond b (Some x) (find q xs)
  go true rest = refl
  go false rest = rest

pub filter_map_same : (q : Request → Bool) (f : Request → Request) → ((x : Request) → q (f x) ≡ q x) → (rs : List Request) → filter q (map f rs) ≡ map f (filter q rs)
filter_map_same q f same [] = refl
filter_map_same q f same (x ∷ rs) = rw (same x) (go (q x) (filter_map_same q f same rs)) where
  go : (b : Bool) → filter q (map f rs) ≡ map f (filter q rs) → cond b (f x ∷ filter q (map f rs)) (filter q (map f rs)) ≡ map f (cond b (x ∷ filter q rs) (filter q rs))
  go true rest = rw rest refl
  go false rest = rest

-- Whether a request is of another than this owner.
abbrev is_others : ℕ → Request → Bool
is_others dead r = not (r.owner == dead)

-- A request for the resource is of another.
abbrev pub NotOn : ℕ → Resource → Request → Type 0
NotOn dead resource r = is_same_resource r.resource resource ≡ true → r.owner == dead ≡ false

module _ (dead : ℕ) (resource : Resource) where
  not_on_map : (o : ℕ) (res : Resource) (rs : List Request) → AllByRecursion (NotOn dead resource) rs → AllByRecursion (NotOn dead resource) (map (granting o res) rs)
  not_on_map o res [] all = tt
  not_on_map o res (r ∷ rs) all = (all.0, not_on_map o res rs all.1)

  others_in_way : (owner : ℕ) (level : Level) (rs : List Request) → AllByRecursion (NotOn dead resource) rs → AllByRecursion (Passes (stands_in_way owner resource level) (is_others dead)) rs
  others_in_way owner level [] all = tt
  others_in_way owner level (r ∷ rs) all = ((λ is. other r all.0 is), others_in_way owner level rs all.1) where
    other : (r : Request) → NotOn dead resource r → stands_in_way owner resource level r ≡ true → not (r.owner == dead) ≡ true
    other r apart is = go (is_same_resource r.resource resource) refl is where
      go : (b : Bool) → is_same_resource r.resource resource ≡ b → b && not (r.owner == owner) && not (is_compatible level r.granted) ≡ true → not (r.owner == dead) ≡ true
      go true same is' = ap not (apart same)
      go false same is' = absurd cc

  others_wait : (s : LockState) (rs : List Request) → AllByRecursion (NotOn dead resource) rs → AllByRecursion (Passes (is_grantable s resource) (is_others dead)) rs
  others_wait s [] all = tt
  others_wait s (r ∷ rs) all = ((λ is. other r all.0 is), others_wait s rs all.1) where
    other : (r : Request) → NotOn dead resource r → is_grantable s resource r ≡ true → not (r.owner == dead) ≡ true
    other r apart is = go (is_same_resource r.resource resource) refl is where
      go : (b : Bool) → is_same_resource r.resource resource ≡ b → b && r.alive && is_clear s r ≡ true → not (r.owner == dead) ≡ true
      go true same is' = ap not (apart same)
      go false same is' = absurd cc

  module _ (s : LockState) (all : AllByRecursion (NotOn dead resource) s.requests) where
    same_holder : (owner : ℕ) (level : Level) → holder_of (without_owner s dead) owner resource level ≡ holder_of s owner resource level
    same_holder owner level = ap (reduce lesser) (filter_filter (stands_in_way owner resource level) (is_others dead) s.requests (others_in_way owner level s.requests all))

    same_clear : (owner : ℕ) (waiting : Option Level) → option_map_or (λ level. is_none (holder_of (without_owner s dead) owner resource level)) waiting false ≡ option_map_or (λ level. is_none (holder_of s owner resource level)) waiting false
    same_clear owner None = refl
    same_clear owner (Some level) = ap is_none (same_holder owner level)

    same_grantable : (r : Request) → is_grantable (without_owner s dead) resource r ≡ is_grantable s resource r
    same_grantable r = go (is_same_resource r.resource resource) refl where
      go : (b : Bool) → is_same_resource r.resource resource ≡ b → b && r.alive && is_clear (without_owner s dead) r ≡ b && r.alive && is_clear s r
      go false same = refl
      go true same = ap (λ c. true && r.alive && c) (subst (λ res. option_map_or (λ level. is_none (holder_of (without_owner s dead) r.owner res level)) r.waiting false ≡ option_map_or (λ level. is_none (holder_of s r.owner res level)) r.waiting false) (sym (same_resource r.resource resource same)) (same_clear r.owner r.waiting))

    same_next_grant : next_grant (without_owner s dead) resource ≡ next_grant s resource
    same_next_grant =
        find_alike (is_grantable (without_owner s dead) resource) (is_grantable s resource) same_grantable (filter (is_others dead) s.requests)
        ∙ find_filter (is_grantable s resource) (is_others dead) s.requests (others_wait s s.requests all)

  grant_commutes : (s : LockState) (o : ℕ) (res : Resource) → without_owner (after_grant s o res) dead ≡ after_grant (without_owner s dead) o res
  grant_commutes s o res = ap (λ rs. record s { requests = rs }) (filter_map_same (is_others dead) (granting o res) (λ x. refl) s.requests)

  -- The grants are the same without the owner.
  pub without_too : (s later : LockState) (grants : List Event) → GrantedOn resource s grants later → AllByRecursion (NotOn dead resource) s.requests
      → GrantedOn resource (without_owner s dead) grants (without_owner later dead)
  without_too _ _ _ (ended s later grants none same empty) all =
      ended (without_owner s dead) (without_owner later dead) grants (same_next_grant s all ∙ none) (ap (λ t. without_owner t dead) same) empty
  without_too _ _ _ (granted s later grants rest r level next waits is more) all =
      granted (without_owner s dead) (without_owner later dead) grants rest r level (same_next_grant s all ∙ next) waits is
      (subst (λ t. GrantedOn resource t rest (without_owner later dead)) (grant_commutes s r.owner r.resource)
      (without_too (after_grant s r.owner r.resource) later rest more (not_on_map r.owner r.resource s.requests all)))

-- What an owner has requests for stays through grants, as whether it is dead.
resources_same : (owner : ℕ) (o : ℕ) (res : Resource) (rs : List Request) → map (λ (r : Request). r.resource) (filter (is_by owner) (map (granting o res) rs)) ≡ map (λ (r : Request). r.resource) (filter (is_by owner) rs)
resources_same owner o res rs = ap (map (λ (r : Request). r.resource)) (filter_map_same (is_by owner) (granting o res) (λ x. refl) rs) ∙ go (filter (is_by owner) rs) where
  go : (xs : List Request) → map (λ (r : Request). r.resource) (map (granting o res) xs) ≡ map (λ (r : Request). r.resource) xs
  go [] = refl
  go (x ∷ xs) = rw (go xs) refl

dead_same : (owner : ℕ) (o : ℕ) (res : Resource) (rs : List Request) → list_any (is_alive_of owner) (map (granting o res) rs) ≡ list_any (is_alive_of owner) rs
dead_same owner o res [] = refl
dead_same owner o res (r ∷ rs) = rw (dead_same owner o res rs) refl

module _ (owner : ℕ) (resource : Resource) where
  pub resources_stay : (s later : LockState) (grants : List Event) → GrantedOn resource s grants later → resources_of later owner ≡ resources_of s owner
  resources_stay _ _ _ (ended s later grants none same empty) = rw same refl
  resources_stay _ _ _ (granted s later grants rest r level next waits is more) =
      resources_stay (after_grant s r.owner r.resource) later rest more ∙ resources_same owner r.owner r.resource s.requests

  pub dead_stays : (s later : LockState) (grants : List Event) → GrantedOn resource s grants later → IsDead s owner → IsDead later owner
  dead_stays _ _ _ (ended s later grants none same empty) dead = rw same dead
  dead_stays _ _ _ (granted s later grants rest r level next waits is more) dead =
      dead_stays (after_grant s r.owner r.resource) later rest more (dead_same owner r.owner r.resource s.requests ∙ dead)

pub lawful_stays : (resource : Resource) (s later : LockState) (grants : List Event) → GrantedOn resource s grants later → IsLawful s → IsLawful later
lawful_stays resource _ _ _ (ended s later grants none same empty) lawful = rw same lawful
lawful_stays resource _ _ _ (granted s later grants rest r level next waits is more) lawful =
    lawful_stays resource (after_grant s r.owner r.resource) later rest more (lawful_next s lawful resource r next)
