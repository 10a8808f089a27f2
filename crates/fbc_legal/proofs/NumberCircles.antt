-- Waits for numbers and relations form no circle, after each event.
use Rattle.std.proofs.Common.{◌≡◌, ◌⊎◌, inl, inr, ℕ, Bool, true, false, not, ◌==◌, ◌&&◌, if◌then◌else◌, List, [], ◌∷◌, map, Option, Some, None, is_some, refl, sym, subst, arith}
use Rattle.std.specs.List.{filter, list_any}
use Rattle.std.specs.Option.{option_map_or}
use Rattle.std.proofs.lemmas.Bool.Decides.{nat_tests}
use Rattle.fbc_kinds.specs.declared.shapes.Shape.{Shape}
use Rattle.fbc_kinds.specs.View.{View}
use Rattle.fbc_levels.specs.declared.levels.Level.{Level}
use Rattle.fbc_levels.specs.declared.resources.Request.{Request}
use Rattle.fbc_levels.specs.declared.resources.Resource.{Resource}
use Rattle.fbc_levels.specs.LockState.{LockState, granted_of, is_of, is_wait_of, wait_of}
use Rattle.fbc_levels.specs.Waits.{Leads, WaitsForNumber, is_for_number, is_wait_for, is_waited_for, waits_for_number}
use Rattle.fbc_lock_table.specs.declared.answers.Asked.{Asked}
use Rattle.fbc_lock_table.specs.declared.answers.Asked.TheVariants.{Granted, Queued}
use Rattle.fbc_lock_table.specs.Answers.{answer_to_ask}
use Rattle.fbc_lock_table.specs.Effects.{after_ask, died, entered, is_bare_wait_of, of_dead, with_waiting, withdrawn, without_wait}
use Rattle.fbc_owner_queues.specs.Circles.{circle_from}
use Rattle.fbc_owner_queues.proofs.Named.{no_path}
use Rattle.fbc_world.specs.declared.events.Act.{Act}
use Rattle.fbc_world.specs.declared.events.Act.TheVariants.{Ask, Die, Grant, Lower, Opened, Reap, Withdraw, Write}
use Rattle.fbc_world.specs.History.{History}
use Rattle.fbc_world.specs.Locks.{asked, granted_to, locks_step, lowered_to, unless_circle, with_grant}
use Rattle.fbc_world.specs.World.{world_of}
use Rattle.fbc_world.proofs.Apart.{IsApart}
use Rattle.fbc_world.proofs.Found.{find_passes}
use Rattle.fbc_legal.specs.Guards.{Guard}
use Rattle.fbc_legal.specs.Legal.{IsLegal}
use Rattle.fbc_legal.specs.Scene.{Scene, scene_of}
use Rattle.fbc_legal.proofs.AtOnce.{granted_free, unblocked-queued, waits_for_nobody}
use Rattle.fbc_legal.proofs.Exclusion.{both_of, same_number}
use Rattle.fbc_legal.proofs.Induction.{requests_true}
use Rattle.fbc_legal.proofs.ListTests.{any_mapped}
use Rattle.fbc_legal.proofs.NumberEdges.{filtered, from_edge, has_edge, holders_left, stopped_entered, to_edge, waiters_entered, waiters_map}
use Rattle.fbc_legal.proofs.NumberLowerings.{lowers}
use Rattle.fbc_legal.proofs.OneWait.{WaitForOne, one-step, waits_once}
use Rattle.fbc_legal.proofs.Pins.{clash}
use Rattle.fbc_legal.proofs.Through.{HasNoCircle, fewer, no_way_back, none_through}
use Rattle.fbc_legal.proofs.Waiters.{granted_waits_not, waited_grant, waits_by, waits_in, waits_of, waits_queued, waits_free, waits_wanted, withdrawn_waits_not}

-- Who waits for nothing waits for nobody.
waits_not : (t : LockState) (owner : ℕ) → ((resource : Resource) → waits_in t owner resource ≡ true → ⊥) → (other : ℕ) → waits_for_number t owner other ≡ true → ⊥
waits_not t owner idle other waits = go (wait_of t owner) refl waits where
  go : (found : Option Request) → wait_of t owner ≡ found → option_map_or (λ wait. is_for_number wait && is_wait_for t other wait) found false ≡ true → ⊥
  go None is waits' = cc
  go (Some wait) is waits' =
      let passes = both_of (wait.owner == owner) (is_some wait.waiting) (find_passes (is_wait_of owner) t.requests wait is) in
      idle wait.resource (waits_of owner wait.resource t wait is (same_number wait.owner owner passes.0) refl passes.1)

module _ (at : Scene) (apart : IsApart at.world.locks) (agrees : (owner : ℕ) (resource : Resource) → granted_of at.world.locks owner resource ≡ at.world.granted owner resource)
    (one : WaitForOne at.world.locks) (none : HasNoCircle (WaitsForNumber at.world.locks)) (actor : ℕ) where
  abbrev s : LockState
  s = at.world.locks

  abbrev Kept : ℕ → ℕ → LockState → Type 0
  Kept owner other t = has_edge t.requests t.requests owner other ≡ true → has_edge s.requests s.requests owner other ≡ true

  stood : (t : LockState) (owner other : ℕ) → Kept owner other t → waits_for_number t owner other ≡ true → waits_for_number s owner other ≡ true
  stood t owner other kept waits = from_edge s owner other (waits_once s apart one owner) (kept (to_edge t owner other waits))

  none_new : (t : LockState) → ((owner other : ℕ) → Kept owner other t) → HasNoCircle (WaitsForNumber t)
  none_new t kept = fewer (WaitsForNumber s) (WaitsForNumber t) (λ owner other waits. stood t owner other (kept owner other) waits) none

  none_by_actor : (t : LockState) → ((owner other : ℕ) → owner == actor ≡ false → other == actor ≡ false → Kept owner other t) → ((others : List ℕ) → Leads (WaitsForNumber t) actor others actor → ⊥)
      → HasNoCircle (WaitsForNumber t)
  none_by_actor t kept never =
      none_through (WaitsForNumber s) (WaitsForNumber t) actor (λ owner other begins ends waits. stood t owner other (kept owner other begins ends) waits) never none

  none_from_actor : (t : LockState) → ((owner other : ℕ) → owner == actor ≡ false → other == actor ≡ false → Kept owner other t) → ((other : ℕ) → waits_for_number t actor other ≡ true → ⊥) → HasNoCircle (WaitsForNumber t)
  none_from_actor t kept idle = none_by_actor t kept (no_way_back (WaitsForNumber t) actor idle)

  -- A withdrawal.
  withdraws : (t : LockState) (o owner other : ℕ) → has_edge (withdrawn t o).requests (withdrawn t o).requests owner other ≡ true → has_edge t.requests t.requests owner other ≡ true
  withdraws t o owner other is =
      let left = filter (λ r. not (is_bare_wait_of o r)) t.requests in
      filtered (λ r. not (is_bare_wait_of o r)) t.requests owner other
      (waiters_map owner other (without_wait o) (λ x. refl) (λ x. refl) (λ x waits. grind (arith, waits)) left left
      (holders_left owner other left (map (without_wait o) left)
      (λ wait. any_mapped (λ r. (r.owner == other) && is_waited_for wait r) (λ r. (r.owner == other) && is_waited_for wait r) (without_wait o) (λ x way. way) left) (map (without_wait o) left) is))

  -- An ask that waits: others wait as they did.
  module _ (r : Resource) (level : Level) (word : ℕ) where
    abbrev queued : LockState
    queued = after_ask s actor r level word Queued

    queues : (owner other : ℕ) → owner == actor ≡ false → Kept owner other queued
    queues owner other begins is =
        let more = entered s.requests actor r word in
        waiters_entered owner other actor r word s.requests s.requests
        (holders_left owner other s.requests more (λ wait. stopped_entered other actor r word s.requests wait) more
        (waiters_map owner other (with_waiting actor r level) (λ x. refl) (λ x. refl) (λ x waits. grind (arith, nat_tests, begins, waits)) more more
        (holders_left owner other more (map (with_waiting actor r level) more)
        (λ wait. any_mapped (λ x. (x.owner == other) && is_waited_for wait x) (λ x. (x.owner == other) && is_waited_for wait x) (with_waiting actor r level) (λ x way. way) more) (map (with_waiting actor r level) more) is)))

    module _ (free : wait_of s actor ≡ None) where
      asked_for : (resource : Resource) → waits_in queued actor resource ≡ true → r ≡ resource
      asked_for resource waits = go (waits_queued actor resource s.requests actor r level word waits) where
        go : (list_any (waits_by actor resource) s.requests ≡ true) ⊎ ((actor ≡ actor) × (r ≡ resource)) → r ≡ resource
        go (inl waited) = absurd (clash _ (waits_free actor resource s free) waited)
        go (inr asks) = asks.1

      at_once : (wait : Bool) → answer_to_ask s actor r level wait ≡ Granted → HasNoCircle (WaitsForNumber queued)
      at_once wait answer = none_from_actor queued (λ owner other begins ends. queues owner other begins) idle where
        idle : (other : ℕ) → waits_for_number queued actor other ≡ true → ⊥
        idle other waits = go (wait_of queued actor) refl waits where
          go : (found : Option Request) → wait_of queued actor ≡ found → option_map_or (λ x. is_for_number x && is_wait_for queued other x) found false ≡ true → ⊥
          go None is waits' = cc
          go (Some x) is waits' =
              let passes = both_of (x.owner == actor) (is_some x.waiting) (find_passes (is_wait_of actor) queued.requests x is) in
              let its = same_number x.owner actor passes.0 in
              waits_for_nobody queued actor r (unblocked-queued actor r level s word (granted_free actor r level s wait answer)) x other is its
              (sym (asked_for x.resource (waits_of actor x.resource queued x is its refl passes.1))) (rw is (both_of (is_for_number x) (is_wait_for queued other x) waits').1)

      in_queue : HasNoCircle (WaitsForNumber (unless_circle queued actor))
      in_queue = go (circle_from queued actor) refl where
        go : (circle : Option (List ℕ)) → circle_from queued actor ≡ circle → HasNoCircle (WaitsForNumber (if is_some circle then withdrawn queued actor else queued))
        go None is = none_by_actor queued (λ owner other begins ends. queues owner other begins) (λ others. no_path queued actor others is)
        go (Some circle) is =
            none_from_actor (withdrawn queued actor) (λ owner other begins ends edge. queues owner other begins (withdraws queued actor owner other edge))
            (waits_not (withdrawn queued actor) actor (λ resource. withdrawn_waits_not actor resource queued))

      asking : (wait : Bool) (answer : Asked) → answer_to_ask s actor r level wait ≡ answer → HasNoCircle (WaitsForNumber (asked s actor r level word answer))
      asking wait Granted is = at_once wait is
      asking wait Queued is = in_queue
      asking wait _ is = none

  -- A grant: its owner waits for nothing any more.
  grants : (r : Resource) (level : Level) → waits_in s actor r ≡ true → HasNoCircle (WaitsForNumber (granted_to s actor r level))
  grants r level waited = none_from_actor (granted_to s actor r level) beside (waits_not (granted_to s actor r level) actor idle) where
    more : List Request
    more = entered s.requests actor r 0

    idle : (resource : Resource) → waits_in (granted_to s actor r level) actor resource ≡ true → ⊥
    idle resource waits =
        let same : r ≡ resource = one actor r resource waited (waited_grant actor resource s.requests actor r level waits) in
        granted_waits_not actor r (entered s.requests actor r 0) level (rw (sym same) at waits)

    spared : (x : Request) → is_of actor r x ≡ false → with_grant actor r level x ≡ x
    spared x other = grind (arith, other)

    stops : (other : ℕ) → other == actor ≡ false → (wait x : Request) → (x.owner == other) && is_waited_for wait (with_grant actor r level x) ≡ true → (x.owner == other) && is_waited_for wait x ≡ true
    stops other ends wait x is =
        let not_its : is_of actor r x ≡ false = grind (arith, nat_tests, ends, (both_of (x.owner == other) (is_waited_for wait (with_grant actor r level x)) is).0) in
        subst (λ (y : Request). (x.owner == other) && is_waited_for wait y ≡ true) (spared x not_its) is

    beside : (owner other : ℕ) → owner == actor ≡ false → other == actor ≡ false → Kept owner other (granted_to s actor r level)
    beside owner other begins ends is =
        let all = entered s.requests actor r 0 in
        waiters_entered owner other actor r 0 s.requests s.requests
        (holders_left owner other s.requests all (λ wait. stopped_entered other actor r 0 s.requests wait) all
        (waiters_map owner other (with_grant actor r level) (λ x. refl) (λ x. refl) (λ x waits. grind (arith, waits)) all all
        (holders_left owner other all (map (with_grant actor r level) all)
        (λ wait. any_mapped (λ x. (x.owner == other) && is_waited_for wait x) (λ x. (x.owner == other) && is_waited_for wait x) (with_grant actor r level) (stops other ends wait) all) (map (with_grant actor r level) all) is)))

  -- A death.
  dies : (owner other : ℕ) → Kept owner other (died s actor)
  dies owner other is =
      waiters_map owner other (of_dead actor) (λ x. refl) (λ x. refl) (λ x waits. refl) s.requests s.requests
      (holders_left owner other s.requests (map (of_dead actor) s.requests)
      (λ wait. any_mapped (λ x. (x.owner == other) && is_waited_for wait x) (λ x. (x.owner == other) && is_waited_for wait x) (of_dead actor) (λ x way. grind (arith, way)) s.requests) (map (of_dead actor) s.requests) is)

  dead_none : HasNoCircle (WaitsForNumber (died s actor))
  dead_none = none_new (died s actor) dies

  opened_none : (capacity : ℕ) → HasNoCircle (WaitsForNumber (record { capacity = capacity; requests = [] }))
  opened_none capacity = none_new (record { capacity = capacity; requests = [] }) (λ owner other is. absurd cc)

  pub none-step : (act : Act) → Guard at actor act → HasNoCircle (WaitsForNumber (locks_step s actor act))
  none-step (Opened locks) g = opened_none locks
  none-step (Ask r level wait word) g = asking r level word g.free wait (answer_to_ask s actor r level wait) refl
  none-step (Grant r level) g = grants r level (waits_wanted actor r s level g.wanted)
  none-step Withdraw g = none_new (withdrawn s actor) (λ owner other. withdraws s actor owner other)
  none-step (Lower r level) g = none_new (lowered_to s actor r level) (lowers at apart agrees actor r level g.part)
  none-step (Reap dead by) g = none_new (record s { requests = filter (λ x. not (x.owner == dead)) s.requests }) (λ owner other. filtered (λ x. not (x.owner == dead)) s.requests owner other)
  none-step (Write page cause true) g = dead_none
  none-step (Write page cause false) g = none
  none-step Die g = dead_none
  none-step _ g = none

-- After a legal history each owner waits for one thing at most, and waits for numbers and relations form no circle.
pub record IsUncircled (s : LockState) : Type 0 where
  pub one : WaitForOne s
  pub none : HasNoCircle (WaitsForNumber s)

IsUncircled-start : (capacity : ℕ) → IsUncircled (record { capacity = capacity; requests = [] })
IsUncircled-start capacity = record { one = λ owner first second waits also. absurd cc; none = nothing } where
  nothing : HasNoCircle (WaitsForNumber (record { capacity = capacity; requests = [] }))
  nothing [] circle = circle
  nothing (owner ∷ []) circle = cc
  nothing (owner ∷ (next ∷ rest)) circle = let first : false ≡ true = circle.0 in cc

pub IsUncircled-legal : (shape : Shape) (file : View) (history : History) → IsLegal shape file history → IsUncircled (world_of shape file history).locks
IsUncircled-legal shape file [] legal = IsUncircled-start 0
IsUncircled-legal shape file (moment ∷ before) legal =
    let at : Scene = scene_of shape file before in
    let was = IsUncircled-legal shape file before legal.0 in
    let true_ = requests_true shape file before in
    record {
      one = one-step at moment.event.actor moment.event.act legal.1.guard was.one;
      none = none-step at true_.apart true_.agrees was.one was.none moment.event.actor moment.event.act legal.1.guard;
    }
