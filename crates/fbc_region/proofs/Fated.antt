-- After a legal history each request is of an owner that came, and says of it whether it is alive.
use Rattle.std.proofs.Common.{◌≡◌, ◌∙◌, ℕ, ◌≤◌, Bool, true, false, not, ◌==◌, cond, if◌then◌else◌, List, [], ◌∷◌, map, Some, None, is_some, sym, refl}
use Rattle.std.specs.List.{AllByRecursion, find}
use Rattle.fbc_kinds.specs.declared.shapes.Shape.{Shape}
use Rattle.fbc_kinds.specs.View.{View}
use Rattle.fbc_levels.specs.declared.levels.Level.{Level}
use Rattle.fbc_levels.specs.declared.levels.Level.TheVariants.{Free}
use Rattle.fbc_levels.specs.declared.resources.Request.{Request}
use Rattle.fbc_levels.specs.declared.resources.Resource.{Resource}
use Rattle.fbc_levels.specs.LockState.{LockState, is_of}
use Rattle.fbc_lock_table.specs.declared.answers.Asked.{Asked}
use Rattle.fbc_lock_table.specs.declared.answers.Asked.TheVariants.{Granted, Queued}
use Rattle.fbc_lock_table.specs.Answers.{answer_to_ask}
use Rattle.fbc_lock_table.specs.Effects.{after_ask, entered, with_granted, with_waiting, withdrawn}
use Rattle.fbc_lock_table.proofs.Ways.{same_resource-self}
use Rattle.fbc_owner_queues.specs.Circles.{circle_from}
use Rattle.fbc_owner_queues.specs.Grants.{is_by}
use Rattle.fbc_legal.specs.Guards.{Guard, GuardOfLeave}
use Rattle.fbc_legal.specs.Legal.{IsLegal, MayAct}
use Rattle.fbc_legal.specs.Lives as lives
use Rattle.fbc_legal.specs.Scene.{scene_of}
use Rattle.fbc_legal.proofs.Ranked.{IsRanked-legal}
use Rattle.fbc_world.specs.declared.events.Act.{Act}
use Rattle.fbc_world.specs.declared.events.Act.TheVariants.{Ask, Die, Enter, Grant, Leave, Lower, Opened, Reap, Withdraw, Write}
use Rattle.fbc_world.specs.History.{History, happens}
use Rattle.fbc_world.specs.Locks.{asked, locks_of, locks_step, lowered_to, unless_circle, with_grant}
use Rattle.fbc_world.specs.Owners.{is_alive}
use Rattle.fbc_world.proofs.WorldLaws.{IsReplayed-world}
use Rattle.fbc_region.specs.Adding.{is_still}
use Rattle.fbc_region.specs.Kept.{IsOfCome}
use Rattle.fbc_region.proofs.Asking.{come_entered, come_withdrawn}
use Rattle.fbc_region.proofs.Fates.{come_die, come_enter, come_leave, failed, killed}
use Rattle.fbc_region.proofs.Grown.{come_map}
use Rattle.fbc_region.proofs.Keeping.{come_still}
use Rattle.fbc_region.proofs.Lowering.{come_filter}

-- Of an owner that has no request for any resource nothing is found.
none_by : (owner : ℕ) (rs : List Request) → ((resource : Resource) → find (is_of owner resource) rs ≡ None) → find (is_by owner) rs ≡ None
none_by owner [] none = refl
none_by owner (r ∷ rs) none = go (r.owner == owner) refl (none_by owner rs) where
  found_here : r.owner == owner ≡ true → is_of owner r.resource r ≡ true
  found_here is = rw (is, same_resource-self r.resource) refl

  clash : (b : Bool) → is_of owner r.resource r ≡ b → b ≡ true → cond b (Some r) (find (is_of owner r.resource) rs) ≡ None → ⊥
  clash true is here none' = cc
  clash false is here none' = cc

  rest : (resource : Resource) (b : Bool) → cond b (Some r) (find (is_of owner resource) rs) ≡ None → find (is_of owner resource) rs ≡ None
  rest resource true none' = absurd cc
  rest resource false none' = none'

  go : (b : Bool) → r.owner == owner ≡ b → (((resource : Resource) → find (is_of owner resource) rs ≡ None) → find (is_by owner) rs ≡ None) → cond b (Some r) (find (is_by owner) rs) ≡ None
  go true is later = absurd (clash (is_of owner r.resource r) refl (found_here is) (none r.resource))
  go false is later = later (λ resource. rest resource (is_of owner resource r) (none resource))

module _ (h : History) (owner : ℕ) (alive : is_alive h owner ≡ true) (came : owner ≤ lives.entered h) (s : LockState) (come : AllByRecursion (IsOfCome h) s.requests) where
  abbrev Come : LockState → Type 0
  Come t = AllByRecursion (IsOfCome h) t.requests

  come_queued : (resource : Resource) (level : Level) (word : ℕ) → Come (after_ask s owner resource level word Queued)
  come_queued resource level word =
      come_map h (with_waiting owner resource level) (λ x. refl) (λ x. refl) (entered s.requests owner resource word) (come_entered h s.requests owner resource word alive came come)

  come_unless : (t : LockState) → Come t → Come (unless_circle t owner)
  come_unless t all = go (is_some (circle_from t owner)) where
    go : (b : Bool) → Come (if b then withdrawn t owner else t)
    go true = come_withdrawn h t owner all
    go false = all

  pub come_asked : (resource : Resource) (level : Level) (word : ℕ) (answer : Asked) → Come (asked s owner resource level word answer)
  come_asked resource level word Granted = come_queued resource level word
  come_asked resource level word Queued = come_unless (after_ask s owner resource level word Queued) (come_queued resource level word)
  come_asked resource level word _ = come

  pub come_granted : (resource : Resource) (level : Level) → Come (locks_step s owner (Grant resource level))
  come_granted resource level =
      come_map h (with_grant owner resource level) (λ x. refl) (λ x. refl) (entered s.requests owner resource 0) (come_entered h s.requests owner resource 0 alive came come)

  come_less : (resource : Resource) (level : Level) → AllByRecursion (IsOfCome h) (map (with_granted owner resource level) (entered s.requests owner resource 0))
  come_less resource level =
      come_map h (with_granted owner resource level) (λ x. refl) (λ x. refl) (entered s.requests owner resource 0) (come_entered h s.requests owner resource 0 alive came come)

  pub come_lower : (resource : Resource) (level : Level) → Come (lowered_to s owner resource level)
  come_lower resource Free = come_filter h (λ r. not (is_of owner resource r)) s.requests come
  come_lower resource _ = come_less resource _

module _ (shape : Shape) (file : View) (before : History) (legal : IsLegal shape file before) (come : AllByRecursion (IsOfCome before) (locks_of before).requests) (owner : ℕ) where
  abbrev s : LockState
  s = locks_of before

  abbrev ComesAfter : Act → Type 0
  ComesAfter act = AllByRecursion (IsOfCome (happens owner act false ∷ before)) (locks_step s owner act).requests

  alive_here : (scene_of shape file before).world.is_alive owner ≡ true → is_alive before owner ≡ true
  alive_here alive = sym ((IsReplayed-world shape file before).alive_is owner) ∙ alive

  came_here : (scene_of shape file before).world.is_alive owner ≡ true → owner ≤ lives.entered before
  came_here alive = (IsRanked-legal shape file before legal).came.living owner alive

  still : (act : Act) → is_still act ≡ true → AllByRecursion (IsOfCome before) (locks_step s owner act).requests → ComesAfter act
  still act is all = come_still before owner act is (locks_step s owner act).requests all

  leaving : GuardOfLeave (scene_of shape file before) owner → find (is_by owner) s.requests ≡ None
  leaving g = none_by owner s.requests (λ resource. rw ((IsReplayed-world shape file before).locks_is) at (g.requests resource))

  come_acted : (act : Act) → MayAct (scene_of shape file before) owner act → Guard (scene_of shape file before) owner act → ComesAfter act
  come_acted (Opened locks) alive g = tt
  come_acted (Enter buffers name) alive g = come_enter before owner buffers name g.next s.requests come
  come_acted Leave alive g = come_leave before owner s.requests (leaving g) come
  come_acted Die alive g = come_die before owner Die killed s.requests come
  come_acted (Ask resource level wait word) alive g =
      still (Ask resource level wait word) refl (come_asked before owner (alive_here alive) (came_here alive) s come resource level word (answer_to_ask s owner resource level wait))
  come_acted (Grant resource level) alive g = still (Grant resource level) refl (come_granted before owner (alive_here alive) (came_here alive) s come resource level)
  come_acted Withdraw alive g = still Withdraw refl (come_withdrawn before s owner come)
  come_acted (Lower resource level) alive g = still (Lower resource level) refl (come_lower before owner (alive_here alive) (came_here alive) s come resource level)
  come_acted (Reap dead by) alive g = still (Reap dead by) refl (come_filter before (λ (r : Request). not (r.owner == dead)) s.requests come)
  come_acted (Write page cause true) alive g = come_die before owner (Write page cause true) (failed page cause) s.requests come
  come_acted (Write page cause false) alive g = still (Write page cause false) refl come
  come_acted act alive g = still act refl come

pub come_legal : (shape : Shape) (file : View) (history : History) → IsLegal shape file history → AllByRecursion (IsOfCome history) (locks_of history).requests
come_legal shape file [] legal = tt
come_legal shape file (moment ∷ before) legal =
    come_acted shape file before legal.0 (come_legal shape file before legal.0) moment.event.actor moment.event.act legal.1.alive legal.1.guard
