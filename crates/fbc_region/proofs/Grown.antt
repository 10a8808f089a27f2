-- A journal with several events more, and what stays through grants.
use Rattle.std.proofs.Common.{◌≡◌, ◌∙◌, ap, ℕ, Bool, true, false, List, [], ◌∷◌, ◌++◌, map, Some, None, unwrap_or, append-nil, append_assoc, sym, subst, refl, arith}
use Rattle.std.specs.List.{All, AllByRecursion, find}
use Rattle.std.proofs.lemmas.List.Elements.{All-head, All-tail}
use Rattle.fbc_levels.specs.declared.levels.Level.{Level}
use Rattle.fbc_levels.specs.declared.resources.Request.{Request}
use Rattle.fbc_levels.specs.declared.resources.Resource.{Resource}
use Rattle.fbc_levels.specs.LockState.{LockState, IsLawful, is_of, request_of}
use Rattle.fbc_lock_table.specs.Effects.{after_grant, entered, granting}
use Rattle.fbc_owner_queues.specs.Grants.{next_grant}
use Rattle.fbc_legal.specs.Lives.{living}
use Rattle.fbc_legal.specs.Lives as lives
use Rattle.fbc_world.specs.declared.events.Act.TheVariants.{Grant}
use Rattle.fbc_world.specs.declared.events.Event.{Event}
use Rattle.fbc_world.specs.History.{History, Recording, happens, recorded}
use Rattle.fbc_world.specs.Locks.{granted_to, locks_of, with_grant}
use Rattle.fbc_world.specs.Owners.{is_alive}
use Rattle.fbc_world.proofs.Apart.{IsApart}
use Rattle.fbc_region.specs.Granting.{GrantedOn, ended, granted}
use Rattle.fbc_region.specs.Kept.{IsOfCome}
use Rattle.fbc_region.proofs.Granting.{lawful_next, only_apart, resource_apart, the_one}
use Rattle.fbc_region.proofs.Pushed.{recorded_push}

-- A history with these events more, none of them a landing.
abbrev pub lengthened : History → List Event → History
lengthened h [] = h
lengthened h (event ∷ events) = lengthened (record { event = event; landed = false } ∷ h) events

pub recorded_adds : (before after : Recording) (events : List Event) → after.events ≡ before.events ++ events → recorded after ≡ lengthened (recorded before) events
recorded_adds before after [] is = ap (λ es. recorded (record before { events = es })) (is ∙ append-nil before.events)
recorded_adds before after (event ∷ events) is =
    let mid : Recording = record before { events = before.events ++ event ∷ [] } in
    recorded_adds mid after events (is ∙ sym (append_assoc before.events (event ∷ []) events)) ∙ ap (λ h. lengthened h events) (recorded_push before mid event refl)

-- The grant of what a request waits for is the grant of that level.
granted_same : (owner : ℕ) (resource : Resource) (level : Level) (x : Request) → (is_of owner resource x ≡ true → x.waiting ≡ Some level) → granting owner resource x ≡ with_grant owner resource level x
granted_same owner resource level x waits = go (is_of owner resource x) refl where
  go : (b : Bool) → is_of owner resource x ≡ b → granting owner resource x ≡ with_grant owner resource level x
  go true is = rw is (ap (λ w. record x { granted = unwrap_or w x.granted; waiting = None }) (waits is))
  go false is = rw is refl

map_same : (f g : Request → Request) (rs : List Request) → All (λ x. f x ≡ g x) rs → map f rs ≡ map g rs
map_same f g [] all = refl
map_same f g (x ∷ rs) all = rw (All-head (λ y. f y ≡ g y) x rs all, map_same f g rs (All-tail (λ y. f y ≡ g y) x rs all)) refl

unentered : (rs : List Request) (owner : ℕ) (resource : Resource) (r : Request) → find (is_of owner resource) rs ≡ Some r → entered rs owner resource 0 ≡ rs
unentered rs owner resource r is = rw is refl

pub step_apart : (s : LockState) → IsApart s → (resource : Resource) (r : Request) (level : Level) → next_grant s resource ≡ Some r → r.waiting ≡ Some level
    → after_grant s r.owner r.resource ≡ granted_to s r.owner resource level
step_apart s apart resource r level next waits =
    let there : request_of s r.owner r.resource ≡ Some r = only_apart s apart resource r next in
    let each : All (λ x. granting r.owner r.resource x ≡ with_grant r.owner r.resource level x) s.requests = λ k d within. granted_same r.owner r.resource level _ (λ is. waited _ (sym (the_one s apart r.owner r.resource k d within is) ∙ there)) in
    subst (λ res. after_grant s r.owner r.resource ≡ granted_to s r.owner res level) (resource_apart s apart resource r next)
    (ap (λ rs. record s { requests = rs }) (map_same (granting r.owner r.resource) (with_grant r.owner r.resource level) s.requests each ∙ ap (map (with_grant r.owner r.resource level)) (sym (unentered s.requests r.owner r.resource r there)))) where
      waited : (x : Request) → Some x ≡ Some r → x.waiting ≡ Some level
      waited x is = let same : x ≡ r = cc in rw same waits

-- Nobody comes, goes or dies.
pub record SameLives (h later : History) : Type 0 where
  pub living_is : living later ≡ living h
  pub entered_is : lives.entered later ≡ lives.entered h
  pub alive_is : (owner : ℕ) → is_alive later owner ≡ is_alive h owner

come_same : (h later : History) → SameLives h later → (rs : List Request) → AllByRecursion (IsOfCome h) rs → AllByRecursion (IsOfCome later) rs
come_same h later same [] all = tt
come_same h later same (r ∷ rs) all = ((all.0.0 ∙ sym (same.alive_is r.owner), omega (arith, all.0.1, same.entered_is)), come_same h later same rs all.1)

-- A change that leaves owners and whether they are alive.
pub come_map : (h : History) (f : Request → Request) → ((x : Request) → (f x).owner ≡ x.owner) → ((x : Request) → (f x).alive ≡ x.alive) → (rs : List Request)
    → AllByRecursion (IsOfCome h) rs → AllByRecursion (IsOfCome h) (map f rs)
come_map h f owners alive [] all = tt
come_map h f owners alive (r ∷ rs) all =
    ((alive r ∙ all.0.0 ∙ ap (is_alive h) (sym (owners r)), omega (arith, owners r, all.0.1)), come_map h f owners alive rs all.1)

-- The state of the requests follows a history.
pub record FollowsIt (s : LockState) (h : History) : Type 0 where
  pub requests : s ≡ locks_of h
  pub come : AllByRecursion (IsOfCome h) s.requests

pub record GoesOn (s later : LockState) (h after : History) : Type 0 where
  pub follows : FollowsIt later after
  pub same : SameLives h after

pub grants_follow : (resource : Resource) (s later : LockState) (grants : List Event) → GrantedOn resource s grants later → IsLawful s → (h : History) → FollowsIt s h
    → GoesOn s later h (lengthened h grants)
grants_follow resource _ _ _ (ended s later grants none is empty) lawful h f =
    rw empty (record { follows = rw is f; same = record { living_is = refl; entered_is = refl; alive_is = λ owner. refl } })
grants_follow resource _ _ _ (granted s later grants rest r level next waits is more) lawful h f =
    rw is (joined (grants_follow resource (after_grant s r.owner r.resource) later rest more (lawful_next s lawful resource r next) (happens r.owner (Grant resource level) false ∷ h) one)) where
      same_one : SameLives h (happens r.owner (Grant resource level) false ∷ h)
      same_one = record { living_is = refl; entered_is = refl; alive_is = λ owner. grind (arith) }

      one : FollowsIt (after_grant s r.owner r.resource) (happens r.owner (Grant resource level) false ∷ h)
      one = record {
        requests = step_apart s lawful.apart resource r level next waits ∙ ap (λ t. granted_to t r.owner resource level) f.requests;
        come = come_same h (happens r.owner (Grant resource level) false ∷ h) same_one (map (granting r.owner r.resource) s.requests) (come_map h (granting r.owner r.resource) (λ x. refl) (λ x. refl) s.requests f.come);
      }

      joined : GoesOn (after_grant s r.owner r.resource) later (happens r.owner (Grant resource level) false ∷ h) (lengthened (happens r.owner (Grant resource level) false ∷ h) rest)
          → GoesOn s later h (lengthened (happens r.owner (Grant resource level) false ∷ h) rest)
      joined goes = record {
        follows = goes.follows;
        same = record {
          living_is = goes.same.living_is ∙ same_one.living_is;
          entered_is = goes.same.entered_is ∙ same_one.entered_is;
          alive_is = λ owner. goes.same.alive_is owner ∙ same_one.alive_is owner;
        };
      }
