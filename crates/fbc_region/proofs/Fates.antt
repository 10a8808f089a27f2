-- What a region keeps as an owner comes, goes or dies.
use Rattle.std.proofs.Common.{◌≡◌, ◌∙◌, ap, ℕ, suc, ◌+◌, ◌≤◌, ◌<◌, Bool, true, false, not, ◌==◌, ◌&&◌, cond, if◌then◌else◌, List, [], ◌∷◌, ◌++◌, map, length, Some, None, sym, subst, refl, arith}
use Rattle.std.specs.List.{AllByRecursion, find}
use Rattle.std.proofs.lemmas.List.{length-append}
use Rattle.std.proofs.lemmas.Bool.Decides.{nat_tests}
use Rattle.fbc_levels.specs.declared.resources.Request.{Request}
use Rattle.fbc_levels.specs.LockState.{LockState}
use Rattle.fbc_lock_table.specs.Effects.{died, of_dead}
use Rattle.fbc_owner_queues.specs.Grants.{first_of, is_by}
use Rattle.fbc_legal.specs.Lives.{all_but, entered, entered_step, living, living_step}
use Rattle.fbc_world.specs.declared.asks.Cause.{Cause}
use Rattle.fbc_world.specs.declared.events.Act.{Act}
use Rattle.fbc_world.specs.declared.events.Act.TheVariants.{Die, Enter, Leave, Write}
use Rattle.fbc_world.specs.History.{History, Recording, happens, recorded}
use Rattle.fbc_world.specs.Locks.{locks_of, locks_step}
use Rattle.fbc_world.specs.Owners.{alive_step, is_alive}
use Rattle.fbc_region.specs.Adding.{UsesRoom, by}
use Rattle.fbc_region.specs.Kept.{IsKept, IsOfCome}
use Rattle.fbc_region.specs.Shared.{HasRoom}
use Rattle.fbc_region.proofs.Living.{fewer_all_but, has_living, less_all_but}
use Rattle.fbc_region.proofs.Pushed.{recorded_push}

-- Whether an owner is alive after an act of some actor.
abbrev alive_after : ℕ → Act → ℕ → Bool → Bool
alive_after actor act owner alive = if actor == owner then alive_step alive act else alive

-- What a death does: it is killed, or a write of it fails.
pub record IsDeath (act : Act) : Type 0 where
  pub goes : (owners : List ℕ) (owner : ℕ) → living_step owners owner act ≡ all_but owner owners
  pub count : (n : ℕ) → entered_step n act ≡ n
  pub lives : (alive : Bool) → alive_step alive act ≡ false
  pub locks : (s : LockState) (owner : ℕ) → locks_step s owner act ≡ died s owner

pub killed : IsDeath Die
killed = record { goes = λ owners owner. refl; count = λ n. refl; lives = λ alive. refl; locks = λ s owner. refl }

pub failed : (page : ℕ) (cause : Cause) → IsDeath (Write page cause true)
failed page cause = record { goes = λ owners owner. refl; count = λ n. refl; lives = λ alive. refl; locks = λ s owner. refl }

module _ (h : History) (owner : ℕ) where
  -- Requests of those that came before are of others than who comes now.
  pub come_enter : (buffers name : ℕ) → owner ≡ suc (entered h) → (rs : List Request) → AllByRecursion (IsOfCome h) rs → AllByRecursion (IsOfCome (happens owner (Enter buffers name) false ∷ h)) rs
  come_enter buffers name next [] all = tt
  come_enter buffers name next (r ∷ rs) all = ((all.0.0 ∙ others r all.0.1, omega (arith, all.0.1)), come_enter buffers name next rs all.1) where
    others : (r : Request) → r.owner ≤ entered h → is_alive h r.owner ≡ alive_after owner (Enter buffers name) r.owner (is_alive h r.owner)
    others r came = go (owner == r.owner) refl where
      go : (b : Bool) → owner == r.owner ≡ b → is_alive h r.owner ≡ (if b then alive_step (is_alive h r.owner) (Enter buffers name) else is_alive h r.owner)
      go true is = absurd (let same : owner ≡ r.owner = grind (arith, nat_tests, is) in omega (arith, same, next, came))
      go false is = refl

  pub come_leave : (rs : List Request) → find (is_by owner) rs ≡ None → AllByRecursion (IsOfCome h) rs → AllByRecursion (IsOfCome (happens owner Leave false ∷ h)) rs
  come_leave [] none all = tt
  come_leave (r ∷ rs) none all = go (r.owner == owner) refl none (come_leave rs) where
    other : r.owner == owner ≡ false → is_alive h r.owner ≡ alive_after owner Leave r.owner (is_alive h r.owner)
    other apart = grind (arith, nat_tests, apart)

    go : (b : Bool) → r.owner == owner ≡ b → cond b (Some r) (find (is_by owner) rs) ≡ None
        → (find (is_by owner) rs ≡ None → AllByRecursion (IsOfCome h) rs → AllByRecursion (IsOfCome (happens owner Leave false ∷ h)) rs)
        → AllByRecursion (IsOfCome (happens owner Leave false ∷ h)) (r ∷ rs)
    go true is none' rest = absurd cc
    go false is none' rest = ((all.0.0 ∙ other is, all.0.1), rest none' all.1)

  pub come_die : (act : Act) → IsDeath act → (rs : List Request) → AllByRecursion (IsOfCome h) rs → AllByRecursion (IsOfCome (happens owner act false ∷ h)) (map (of_dead owner) rs)
  come_die act death [] all = tt
  come_die act death (r ∷ rs) all = ((fate r all.0.0, omega (arith, all.0.1, death.count (entered h))), come_die act death rs all.1) where
    fate : (r : Request) → r.alive ≡ is_alive h r.owner → (not (r.owner == owner) && r.alive) ≡ alive_after owner act r.owner (is_alive h r.owner)
    fate r is = grind (arith, nat_tests, is, death.lives (is_alive h r.owner))

module _ (before after : Recording) (owner : ℕ) (table : LockState) (k : IsKept before table) where
  abbrev h : History
  h = recorded before

  module _ (buffers name : ℕ) (events : after.events ≡ before.events ++ by owner (Enter buffers name) ∷ []) (spare : after.spare + 1 ≡ before.spare) where
    coming : recorded after ≡ happens owner (Enter buffers name) false ∷ h
    coming = recorded_push before after (by owner (Enter buffers name)) events

    more_live : length (living (recorded after)) ≡ length (living h) + 1
    more_live = ap (λ g. length (living g)) coming ∙ length-append (living h) (owner ∷ [])

    pub room_enter : UsesRoom before after 2
    room_enter n room = omega (arith, more_live, spare, room)

    pub came_enter : owner ≡ suc (entered h) → owner ≤ 65536 → entered_step (entered h) (Enter buffers name) ≤ 65536
    came_enter next few = omega (arith, next, few)

    pub kept_enter : owner ≡ suc (entered h) → owner ≤ 65536 → length (living h) < 8 → HasRoom before 2 → IsKept after table
    kept_enter next few place room = record {
      requests = k.requests ∙ sym (ap locks_of coming);
      within = omega (arith, now, few);
      few = omega (arith, more_live, place);
      aside = omega (arith, more_live, spare, room);
      come = subst (λ g. AllByRecursion (IsOfCome g) table.requests) (sym coming) (come_enter h owner buffers name next table.requests k.come);
      living_came = λ other alive. omega (arith, now, came other (owner == other) refl (sym (ap (λ g. is_alive g other) coming) ∙ alive));
    } where
      now : entered (recorded after) ≡ owner
      now = ap entered coming ∙ sym next

      came : (other : ℕ) (b : Bool) → owner == other ≡ b → (if b then true else is_alive h other) ≡ true → other ≤ owner
      came other true is alive = grind (arith, nat_tests, is)
      came other false is alive = omega (arith, k.living_came other alive, next)

  module _ (events : after.events ≡ before.events ++ by owner Leave ∷ []) (spare : after.spare + 1 ≡ before.spare) where
    going : recorded after ≡ happens owner Leave false ∷ h
    going = recorded_push before after (by owner Leave) events

    fewer_live : length (living (recorded after)) ≤ length (living h)
    fewer_live = omega (arith, ap (λ g. length (living g)) going, fewer_all_but owner (living h))

    pub room_leave : UsesRoom before after 1
    room_leave n room = omega (arith, fewer_live, spare, room)

    pub kept_leave : first_of table owner ≡ None → HasRoom before 1 → IsKept after table
    kept_leave none room = record {
      requests = k.requests ∙ sym (ap locks_of going);
      within = omega (arith, k.within, ap entered going);
      few = omega (arith, fewer_live, k.few);
      aside = omega (arith, fewer_live, spare, room);
      come = subst (λ g. AllByRecursion (IsOfCome g) table.requests) (sym going) (come_leave h owner table.requests none k.come);
      living_came = λ other alive. omega (arith, ap entered going, came other (owner == other) (sym (ap (λ g. is_alive g other) going) ∙ alive));
    } where
      came : (other : ℕ) (b : Bool) → (if b then false else is_alive h other) ≡ true → other ≤ entered h
      came other true alive = absurd cc
      came other false alive = k.living_came other alive

  module _ (act : Act) (death : IsDeath act) (alive : is_alive h owner ≡ true) (events : after.events ≡ before.events ++ by owner act ∷ []) (spare : after.spare + 1 ≡ before.spare) where
    dying : recorded after ≡ happens owner act false ∷ h
    dying = recorded_push before after (by owner act) events

    one_less : length (living (recorded after)) + 1 ≤ length (living h)
    one_less = omega (arith, ap (λ g. length (living g)) dying, ap length (death.goes (living h) owner), less_all_but owner (living h) (has_living h owner ∙ alive))

    pub room_die : (n : ℕ) → HasRoom before n → HasRoom after n
    room_die n room = omega (arith, one_less, spare, room)

    pub kept_die : IsKept after (died table owner)
    kept_die = record {
      requests = ap (λ s. died s owner) k.requests ∙ sym (ap locks_of dying ∙ death.locks (locks_of h) owner);
      within = omega (arith, k.within, same);
      few = omega (arith, one_less, k.few);
      aside = omega (arith, one_less, spare, k.aside);
      come = subst (λ g. AllByRecursion (IsOfCome g) (map (of_dead owner) table.requests)) (sym dying) (come_die h owner act death table.requests k.come);
      living_came = λ other lives. omega (arith, same, came other (owner == other) (sym (ap (λ g. is_alive g other) dying) ∙ lives));
    } where
      same : entered (recorded after) ≡ entered h
      same = ap entered dying ∙ death.count (entered h)

      came : (other : ℕ) (b : Bool) → (if b then alive_step (is_alive h other) act else is_alive h other) ≡ true → other ≤ entered h
      came other true lives = absurd (clash (alive_step (is_alive h other) act) (death.lives (is_alive h other)) lives) where
        clash : (b : Bool) → b ≡ false → b ≡ true → ⊥
        clash b isnt is = cc
      came other false lives = k.living_came other lives

-- There is a place for the death of a living owner.
pub place_die : (before : Recording) (owner : ℕ) (table : LockState) → IsKept before table → is_alive (recorded before) owner ≡ true → 0 < before.spare
place_die before owner table k alive = omega (arith, less_all_but owner (living (recorded before)) (has_living (recorded before) owner ∙ alive), k.aside)
