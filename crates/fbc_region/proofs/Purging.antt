-- A purge: the requests of a dead owner go one after the other, each with the grants that follow.
use Rattle.std.proofs.Common.{◌≡◌, ◌≢◌, ◌∙◌, ap, ℕ, Bool, true, false, not, ◌==◌, ◌&&◌, cond, List, [], ◌∷◌, ◌++◌, map, Some, None, sym, subst, refl, arith}
use Rattle.std.specs.List.{AllByRecursion, AllPairs, filter, find}
use Rattle.std.proofs.lemmas.Bool.Decides.{nat_tests}
use Rattle.std.proofs.lemmas.List.Elements.{recursion_from_All}
use Rattle.fbc_levels.specs.declared.resources.Request.{Request}
use Rattle.fbc_levels.specs.LockState.{LockState, AreApart, IsLawful, is_of}
use Rattle.fbc_levels.specs.Resources.{is_same_resource}
use Rattle.fbc_lock_table.specs.Effects.{without}
use Rattle.fbc_lock_table.proofs.Lawful.{filter_lawful}
use Rattle.fbc_lock_table.proofs.Pairs.{AllPairs-head, AllPairs-tail}
use Rattle.fbc_lock_table.proofs.Ways.{is_of-self, same_resource}
use Rattle.fbc_owner_queues.specs.Grants.{first_of, is_by}
use Rattle.fbc_world.proofs.FirstOf.{filter-kept}
use Rattle.fbc_world.specs.declared.events.Event.{Event}
use Rattle.fbc_world.specs.History.{History}
use Rattle.fbc_world.specs.Locks.{without_owner}
use Rattle.fbc_region.specs.Granting.{AreGrants, GrantedOn, Purged, goes, over, resources_of}
use Rattle.fbc_region.proofs.Grown.{FollowsIt, GoesOn, grants_follow, lengthened}
use Rattle.fbc_region.proofs.Shadow.{NotOn, lawful_stays, resources_stay, without_too}

pub lengthened_append : (h : History) (first rest : List Event) → lengthened h (first ++ rest) ≡ lengthened (lengthened h first) rest
lengthened_append h [] rest = refl
lengthened_append h (event ∷ first) rest = lengthened_append (record { event = event; landed = false } ∷ h) first rest

-- What is found first.
by_owner : (dead : ℕ) (rs : List Request) (r : Request) → find (is_by dead) rs ≡ Some r → r.owner ≡ dead
by_owner dead [] r is = absurd cc
by_owner dead (x ∷ rs) r is = go (x.owner == dead) refl is (by_owner dead rs r) where
  go : (b : Bool) → x.owner == dead ≡ b → cond b (Some x) (find (is_by dead) rs) ≡ Some r → (find (is_by dead) rs ≡ Some r → r.owner ≡ dead) → r.owner ≡ dead
  go true same is' rest = let here : x ≡ r = cc in ap (λ (y : Request). y.owner) (sym here) ∙ grind (arith, nat_tests, same)
  go false same is' rest = rest is'

-- A request of another resource stays where the one for this resource goes.
keeps_other : (r x : Request) → (x.owner ≡ r.owner → x.resource ≢ r.resource) → is_of r.owner r.resource x ≡ false
keeps_other r x apart = go (x.owner == r.owner) refl (is_same_resource x.resource r.resource) refl where
  go : (a : Bool) → x.owner == r.owner ≡ a → (b : Bool) → is_same_resource x.resource r.resource ≡ b → a && b ≡ false
  go true is true also = absurd (apart (grind (arith, nat_tests, is)) (same_resource x.resource r.resource also))
  go true is false also = refl
  go false is b also = refl

keeps_all : (r : Request) (rs : List Request) → AllByRecursion (AreApart r) rs → filter (λ x. not (is_of r.owner r.resource x)) rs ≡ rs
keeps_all r [] all = refl
keeps_all r (x ∷ rs) all = rw (keeps_other r x (λ same alike. all.0 (sym same) (sym alike)), keeps_all r rs all.1) refl

abbrev kept : Request → List Request → List Request
kept r rs = filter (λ x. not (is_of r.owner r.resource x)) rs

-- The owner's other requests come behind the first.
rest_of : (dead : ℕ) (rs : List Request) (r : Request) → AllPairs AreApart rs → find (is_by dead) rs ≡ Some r
    → map (λ (x : Request). x.resource) (filter (is_by dead) rs) ≡ r.resource ∷ map (λ (x : Request). x.resource) (filter (is_by dead) (kept r rs))
rest_of dead [] r apart is = absurd cc
rest_of dead (x ∷ rs) r apart is =
    go (x.owner == dead) refl is (rest_of dead rs r (AllPairs-tail AreApart x rs apart)) (keeps_all x rs (recursion_from_All (AreApart x) rs (AllPairs-head AreApart x rs apart))) where
      other : x.owner == dead ≡ false → r.owner ≡ dead → is_of r.owner r.resource x ≡ false
      other isnt by = grind (arith, nat_tests, isnt, by)

      here : (b : Bool) → is_of x.owner x.resource x ≡ b → b ≡ true → x.owner == dead ≡ true → kept x rs ≡ rs → x ≡ r
          → map (λ (y : Request). y.resource) (filter (is_by dead) (x ∷ rs)) ≡ r.resource ∷ map (λ (y : Request). y.resource) (filter (is_by dead) (kept r (x ∷ rs)))
      here true own so mine stay same =
          subst (λ (y : Request). map (λ (z : Request). z.resource) (filter (is_by dead) (x ∷ rs)) ≡ y.resource ∷ map (λ (z : Request). z.resource) (filter (is_by dead) (kept y (x ∷ rs)))) same (rw (mine, own, stay) refl)
      here false own so mine stay same = absurd cc

      go : (b : Bool) → x.owner == dead ≡ b → cond b (Some x) (find (is_by dead) rs) ≡ Some r
          → (find (is_by dead) rs ≡ Some r → map (λ (y : Request). y.resource) (filter (is_by dead) rs) ≡ r.resource ∷ map (λ (y : Request). y.resource) (filter (is_by dead) (kept r rs)))
          → kept x rs ≡ rs
          → map (λ (y : Request). y.resource) (filter (is_by dead) (x ∷ rs)) ≡ r.resource ∷ map (λ (y : Request). y.resource) (filter (is_by dead) (kept r (x ∷ rs)))
      go true mine is' rest stay = let same : x ≡ r = cc in here (is_of x.owner x.resource x) refl (is_of-self x) mine stay same
      go false mine is' rest stay = rw (mine, other mine (by_owner dead rs r is'), mine) (rest is')

module _ (dead : ℕ) where
  pub next_resources : (s : LockState) (r : Request) → IsLawful s → first_of s dead ≡ Some r → resources_of s dead ≡ r.resource ∷ resources_of (without s r.owner r.resource) dead
  next_resources s r lawful first = rest_of dead s.requests r lawful.apart first

  none_left : (rs : List Request) → find (is_by dead) rs ≡ None → filter (λ (x : Request). not (x.owner == dead)) rs ≡ rs
  none_left [] none = refl
  none_left (x ∷ rs) none = go (x.owner == dead) none (none_left rs) where
    go : (b : Bool) → cond b (Some x) (find (is_by dead) rs) ≡ None → (find (is_by dead) rs ≡ None → filter (λ (y : Request). not (y.owner == dead)) rs ≡ rs)
        → cond (not b) (x ∷ filter (λ (y : Request). not (y.owner == dead)) rs) (filter (λ (y : Request). not (y.owner == dead)) rs) ≡ x ∷ rs
    go true none' rest = absurd cc
    go false none' rest = rw (rest none') refl

  none_have : (rs : List Request) → find (is_by dead) rs ≡ None → filter (is_by dead) rs ≡ []
  none_have [] none = refl
  none_have (x ∷ rs) none = go (x.owner == dead) none (none_have rs) where
    go : (b : Bool) → cond b (Some x) (find (is_by dead) rs) ≡ None → (find (is_by dead) rs ≡ None → filter (is_by dead) rs ≡ []) → cond b (x ∷ filter (is_by dead) rs) (filter (is_by dead) rs) ≡ []
    go true none' rest = absurd cc
    go false none' rest = rest none'

  same_without : (s : LockState) (r : Request) → r.owner ≡ dead → without_owner (without s r.owner r.resource) dead ≡ without_owner s dead
  same_without s r by = ap (λ rs. record s { requests = rs }) (filter-kept (λ (x : Request). not (x.owner == dead)) (λ x. not (is_of r.owner r.resource x)) (λ x others. other x others) s.requests) where
    other : (x : Request) → not (x.owner == dead) ≡ true → not (is_of r.owner r.resource x) ≡ true
    other x others = grind (arith, nat_tests, others, by)

  not_on : (r : Request) → r.owner ≡ dead → (rs : List Request) → AllByRecursion (NotOn dead r.resource) (kept r rs)
  not_on r by [] = tt
  not_on r by (x ∷ rs) = go (is_of r.owner r.resource x) refl (not_on r by rs) where
    apart : is_of r.owner r.resource x ≡ false → is_same_resource x.resource r.resource ≡ true → x.owner == dead ≡ false
    apart isnt same = grind (arith, nat_tests, isnt, same, by)

    go : (b : Bool) → is_of r.owner r.resource x ≡ b → AllByRecursion (NotOn dead r.resource) (kept r rs) → AllByRecursion (NotOn dead r.resource) (cond (not b) (x ∷ kept r rs) (kept r rs))
    go true is rest = rest
    go false is rest = (apart is, rest)

  -- What a purge comes to for the requests without those of the dead owner.
  pub record Comes (s later : LockState) (h : History) (grants : List Event) : Type 0 where
    pub are : AreGrants (resources_of s dead) (without_owner s dead) grants
    pub goes : GoesOn (without_owner s dead) later h (lengthened h grants)

  pub purge_comes : (s later : LockState) (grants : List Event) → Purged dead s grants later → IsLawful s → (h : History) → FollowsIt (without_owner s dead) h → Comes s later h grants
  purge_comes _ _ _ (over s later grants none same empty) lawful h f = record {
    are = rw (none_have s.requests none) empty;
    goes = rw empty (record {
      follows = subst (λ t. FollowsIt t h) (ap (λ rs. record s { requests = rs }) (none_left s.requests none) ∙ sym same) f;
      same = record { living_is = refl; entered_is = refl; alive_is = λ owner. refl };
    });
  }
  purge_comes _ _ _ (goes s mid later grants first rest r found made is more) lawful h f =
      rw is (joined (purge_comes mid later rest more mid_lawful (lengthened h first) on.follows)) where
        t : LockState
        t = without s r.owner r.resource

        by : r.owner ≡ dead
        by = by_owner dead s.requests r found

        t_lawful : IsLawful t
        t_lawful = filter_lawful s (λ x. not (is_of r.owner r.resource x)) lawful

        mid_lawful : IsLawful mid
        mid_lawful = lawful_stays r.resource t mid first made t_lawful

        shadow : GrantedOn r.resource (without_owner s dead) first (without_owner mid dead)
        shadow = subst (λ u. GrantedOn r.resource u first (without_owner mid dead)) (same_without s r by) (without_too dead r.resource t mid first made (not_on r by s.requests))

        on : GoesOn (without_owner s dead) (without_owner mid dead) h (lengthened h first)
        on = grants_follow r.resource (without_owner s dead) (without_owner mid dead) first shadow (filter_lawful s (λ (x : Request). not (x.owner == dead)) lawful) h f

        resources : resources_of s dead ≡ r.resource ∷ resources_of mid dead
        resources = next_resources s r lawful found ∙ ap (λ rs. r.resource ∷ rs) (sym (resources_stay dead r.resource t mid first made))

        joined : Comes mid later (lengthened h first) rest → Comes s later h (first ++ rest)
        joined comes = record {
          are = rw resources (first, rest, without_owner mid dead, refl, shadow, comes.are);
          goes = rw (lengthened_append h first rest) (record {
            follows = comes.goes.follows;
            same = record {
              living_is = comes.goes.same.living_is ∙ on.same.living_is;
              entered_is = comes.goes.same.entered_is ∙ on.same.entered_is;
              alive_is = λ owner. comes.goes.same.alive_is owner ∙ on.same.alive_is owner;
            };
          });
        }
