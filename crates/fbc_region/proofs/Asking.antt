-- What a region keeps as an owner asks for a level.
use Rattle.std.proofs.Common.{append_assoc, ◌≡◌, ◌∙◌, ap, ℕ, ◌+◌, ◌≤◌, Bool, true, false, not, ◌==◌, ◌&&◌, cond, if◌then◌else◌, List, [], ◌∷◌, ◌++◌, map, length, Option, Some, None, is_some, sym, subst, refl, arith}
use Rattle.std.specs.List.{All, AllByRecursion, filter, find}
use Rattle.std.specs.Option.{option_map, option_or}
use Rattle.std.proofs.lemmas.Bool.Decides.{nat_tests}
use Rattle.std.proofs.lemmas.List.Elements.{All-from_recursion, All-head, All-tail}
use Rattle.fbc_levels.specs.declared.levels.Level.{Level}
use Rattle.fbc_levels.specs.declared.resources.Request.{Request}
use Rattle.fbc_levels.specs.declared.resources.Resource.{Resource}
use Rattle.fbc_levels.specs.LockState.{LockState, is_of, is_wait_of, wait_of}
use Rattle.fbc_lock_table.specs.declared.answers.Asked.{Asked}
use Rattle.fbc_lock_table.specs.declared.answers.Asked.TheVariants.{Granted, Queued}
use Rattle.fbc_lock_table.specs.Answers.{MayAsk, answer_to_ask}
use Rattle.fbc_lock_table.specs.Effects.{after_ask, entered, is_bare_wait_of, new_request, with_granted, with_waiting, without_wait, withdrawn}
use Rattle.fbc_lock_table.proofs.Lawful.{entered_all}
use Rattle.fbc_lock_table.proofs.Pairs.{none-find}
use Rattle.fbc_lock_table.proofs.Ways.{own_wait, same_resource-self}
use Rattle.fbc_owner_queues.specs.Circles.{circle_from}
use Rattle.fbc_owner_queues.specs.Living.{has}
use Rattle.fbc_legal.specs.Lives.{living}
use Rattle.fbc_legal.specs.Lives as lives
use Rattle.fbc_world.proofs.Found.{find_map}
use Rattle.fbc_world.proofs.Requests.{find_entered, is_key}
use Rattle.fbc_world.specs.declared.answers.Answer.{Answer}
use Rattle.fbc_world.specs.declared.answers.Answer.TheVariants as answers
use Rattle.fbc_world.specs.declared.events.Act.TheVariants.{Ask, Grant, Withdraw}
use Rattle.fbc_world.specs.History.{History, Recording, recorded}
use Rattle.fbc_world.specs.Locks.{asked, granted_to, with_grant}
use Rattle.fbc_world.specs.Owners.{is_alive}
use Rattle.fbc_region.specs.Adding.{UsesRoom, by}
use Rattle.fbc_region.specs.Kept.{IsKept, IsOfCome}
use Rattle.fbc_region.specs.Shared.{HasRoom, locks_in}
use Rattle.fbc_region.proofs.Grown.{come_map}
use Rattle.fbc_region.proofs.Keeping.{kept_still, room_still}
use Rattle.fbc_region.proofs.Living.{has_living}
use Rattle.fbc_region.proofs.Lowering.{come_filter}

come_one : (h : History) (rs : List Request) (r : Request) → AllByRecursion (IsOfCome h) rs → IsOfCome h r → AllByRecursion (IsOfCome h) (rs ++ r ∷ [])
come_one h [] r all it = (it, tt)
come_one h (x ∷ rs) r all it = (all.0, come_one h rs r all.1 it)

pub come_entered : (h : History) (rs : List Request) (owner : ℕ) (resource : Resource) (word : ℕ) → is_alive h owner ≡ true → owner ≤ lives.entered h
    → AllByRecursion (IsOfCome h) rs → AllByRecursion (IsOfCome h) (entered rs owner resource word)
come_entered h rs owner resource word alive came all = go (is_some (find (is_of owner resource) rs)) where
  go : (b : Bool) → AllByRecursion (IsOfCome h) (if b then rs else rs ++ new_request owner resource word ∷ [])
  go true = all
  go false = come_one h rs (new_request owner resource word) all (sym alive, came)

pub come_withdrawn : (h : History) (s : LockState) (owner : ℕ) → AllByRecursion (IsOfCome h) s.requests → AllByRecursion (IsOfCome h) (withdrawn s owner).requests
come_withdrawn h s owner all =
    come_map h (without_wait owner) (λ x. refl) (λ x. refl) (filter (λ r. not (is_bare_wait_of owner r)) s.requests) (come_filter h (λ r. not (is_bare_wait_of owner r)) s.requests all)

come_has : (h : History) (rs : List Request) → AllByRecursion (IsOfCome h) rs → AllByRecursion (λ (r : Request). r.alive ≡ true → has (living h) r.owner ≡ true) rs
come_has h [] all = tt
come_has h (r ∷ rs) all = ((λ lives. has_living h r.owner ∙ sym all.0.0 ∙ lives), come_has h rs all.1)

-- The living owners that have requests are among those that are alive.
pub all_live : (h : History) (rs : List Request) → AllByRecursion (IsOfCome h) rs → All (λ (r : Request). r.alive ≡ true → has (living h) r.owner ≡ true) rs
all_live h rs all = All-from_recursion (λ (r : Request). r.alive ≡ true → has (living h) r.owner ≡ true) rs (come_has h rs all)

-- A grant at once.
module _ (owner : ℕ) (resource : Resource) (level : Level) (word : ℕ) where
  pub own_key : is_key owner resource owner resource ≡ true
  own_key = rw (same_resource-self resource) (grind (arith, nat_tests))

  is_entered : (rs : List Request) → is_some (find (is_of owner resource) (entered rs owner resource word)) ≡ true
  is_entered rs = ap is_some (find_entered owner resource rs owner resource word) ∙ rw own_key (go (find (is_of owner resource) rs)) where
    go : (found : Option Request) → is_some (option_or found (Some (new_request owner resource word))) ≡ true
    go None = refl
    go (Some r) = refl

  still_some : (found : Option Request) → is_some found ≡ true → is_some (option_map (with_waiting owner resource level) found) ≡ true
  still_some None is = absurd cc
  still_some (Some r) is = refl

  pub waits_there : (rs : List Request) → is_some (find (is_of owner resource) (map (with_waiting owner resource level) (entered rs owner resource word))) ≡ true
  waits_there rs =
      ap is_some (find_map (is_of owner resource) (with_waiting owner resource level) (λ x. refl) (entered rs owner resource word))
      ∙ still_some (find (is_of owner resource) (entered rs owner resource word)) (is_entered rs)

  entered_again : (xs : List Request) → is_some (find (is_of owner resource) xs) ≡ true → entered xs owner resource 0 ≡ xs
  entered_again xs is = rw is refl

  one_grant : (x : Request) → is_wait_of owner x ≡ false → with_grant owner resource level (with_waiting owner resource level x) ≡ with_granted owner resource level x
  one_grant x idle = go (is_of owner resource x) refl x.waiting refl where
    clash : (w : Option Level) → is_some w ≡ true → x.waiting ≡ w → is_of owner resource x ≡ true → ⊥
    clash w some is own = absurd (let waits : is_wait_of owner x ≡ true = grind (arith, nat_tests, some, is, own) in cc)

    go : (b : Bool) → is_of owner resource x ≡ b → (w : Option Level) → x.waiting ≡ w → with_grant owner resource level (with_waiting owner resource level x) ≡ with_granted owner resource level x
    go false is w at = rw is refl
    go true is None at = rw is (ap (λ v. record x { granted = level; waiting = v }) (sym at))
    go true is (Some l) at = absurd (clash (Some l) refl at is)

  map_grant : (xs : List Request) → All (λ x. is_wait_of owner x ≡ false) xs → map (with_grant owner resource level) (map (with_waiting owner resource level) xs) ≡ map (with_granted owner resource level) xs
  map_grant [] all = refl
  map_grant (x ∷ xs) all =
      rw (one_grant x (All-head (λ y. is_wait_of owner y ≡ false) x xs all), map_grant xs (All-tail (λ y. is_wait_of owner y ≡ false) x xs all)) refl

  pub granted_at_once : (s : LockState) → wait_of s owner ≡ None → after_ask s owner resource level word Granted ≡ granted_to (after_ask s owner resource level word Queued) owner resource level
  granted_at_once s idle = ap (λ rs. record s { requests = rs }) (sym (
      ap (map (with_grant owner resource level)) (entered_again (map (with_waiting owner resource level) (entered s.requests owner resource word)) (waits_there s.requests))
      ∙ map_grant (entered s.requests owner resource word) (entered_all (λ x. is_wait_of owner x ≡ false) s.requests owner resource word (none-find (is_wait_of owner) s.requests idle) (own_wait owner resource word))))

module _ (given before mid : Recording) (table : LockState) (owner : ℕ) (resource : Resource) (level : Level) (wait : Bool) (word : ℕ) (seen : before ≡ given) (k : IsKept before table)
    (alive : is_alive (recorded given) owner ≡ true) (may : MayAsk (locks_in given) owner resource level) (room : HasRoom given 9)
    (events : mid.events ≡ before.events ++ by owner (Ask resource level wait word) ∷ []) (spare : mid.spare + 1 ≡ before.spare) where
  room_here : HasRoom before 9
  room_here = subst (λ j. HasRoom j 9) (sym seen) room

  alive_here : is_alive (recorded before) owner ≡ true
  alive_here = subst (λ j. is_alive (recorded j) owner ≡ true) (sym seen) alive

  idle_here : wait_of table owner ≡ None
  idle_here = subst (λ s. wait_of s owner ≡ None) (sym (k.requests ∙ ap locks_in seen)) may.waits_for_nothing

  came_here : owner ≤ lives.entered (recorded before)
  came_here = k.living_came owner alive_here

  come_queued : AllByRecursion (IsOfCome (recorded before)) (after_ask table owner resource level word Queued).requests
  come_queued =
      come_map (recorded before) (with_waiting owner resource level) (λ x. refl) (λ x. refl) (entered table.requests owner resource word) (come_entered (recorded before) table.requests owner resource word alive_here came_here k.come)

  kept_asked : (answer : Asked) (next : LockState) → answer ≡ answer_to_ask table owner resource level wait → next ≡ asked table owner resource level word answer
      → AllByRecursion (IsOfCome (recorded before)) next.requests → IsKept mid next
  kept_asked answer next answers is come =
      kept_still before mid owner (Ask resource level wait word) refl events table next k spare (omega (arith, room_here)) (is ∙ ap (asked table owner resource level word) answers) come

  uses_mid : UsesRoom before mid 1
  uses_mid = room_still before mid owner (Ask resource level wait word) refl events spare

  -- Refused.
  pub kept_refused : (answer : Asked) (next : LockState) → answer ≡ answer_to_ask table owner resource level wait → next ≡ table → asked table owner resource level word answer ≡ table → IsKept mid next
  kept_refused answer next answers is same = kept_asked answer next answers (is ∙ sym same) (rw is k.come)

  -- Waiting.
  pub few_live : (next : LockState) → next ≡ after_ask table owner resource level word Queued → All (λ (r : Request). r.alive ≡ true → has (living (recorded before)) r.owner ≡ true) next.requests
  few_live next is = rw is (all_live (recorded before) (after_ask table owner resource level word Queued).requests come_queued)

  pub eight_live : length (living (recorded before)) ≤ 8
  eight_live = k.few

  pub kept_waiting : (next : LockState) → Queued ≡ answer_to_ask table owner resource level wait → next ≡ after_ask table owner resource level word Queued → None ≡ circle_from next owner → IsKept mid next
  kept_waiting next answers is none =
      kept_asked Queued next answers (is ∙ rw (sym (rw is at none)) refl) (rw is come_queued)

  pub kept_circle : (queued next : LockState) (circle : List ℕ) → Queued ≡ answer_to_ask table owner resource level wait → queued ≡ after_ask table owner resource level word Queued
      → Some circle ≡ circle_from queued owner → next ≡ withdrawn queued owner → IsKept mid next
  kept_circle queued next circle answers is some gone =
      kept_asked Queued next answers (gone ∙ ap (λ s. withdrawn s owner) is ∙ rw (sym (rw is at some)) refl)
      (rw (gone, is) (come_withdrawn (recorded before) (after_ask table owner resource level word Queued) owner come_queued))

  -- Granted at once.
  module _ (after : Recording) (next : LockState) (answers : Granted ≡ answer_to_ask table owner resource level wait) (is : next ≡ after_ask table owner resource level word Granted)
      (more : after.events ≡ mid.events ++ by owner (Grant resource level) ∷ []) (fewer : after.spare + 1 ≡ mid.spare) where
    kept_mid : IsKept mid (after_ask table owner resource level word Queued)
    kept_mid = kept_asked Granted (after_ask table owner resource level word Queued) answers refl come_queued

    come_granted : AllByRecursion (IsOfCome (recorded mid)) (map (with_grant owner resource level) (entered (after_ask table owner resource level word Queued).requests owner resource 0))
    come_granted =
        come_map (recorded mid) (with_grant owner resource level) (λ x. refl) (λ x. refl) (entered (after_ask table owner resource level word Queued).requests owner resource 0)
        (subst (AllByRecursion (IsOfCome (recorded mid))) (sym (entered_again owner resource level word (after_ask table owner resource level word Queued).requests (waits_there owner resource level word table.requests))) kept_mid.come)

    pub kept_granted : IsKept after next
    kept_granted =
        rw is (rw (granted_at_once owner resource level word table idle_here)
        (kept_still mid after owner (Grant resource level) refl more (after_ask table owner resource level word Queued) (granted_to (after_ask table owner resource level word Queued) owner resource level) kept_mid fewer
        (uses_mid 1 (omega (arith, room_here))) refl come_granted))

-- The ask and the grant recorded together.
module _ (given before after : Recording) (table : LockState) (owner : ℕ) (resource : Resource) (level : Level) (wait : Bool) (word : ℕ) (seen : before ≡ given) (k : IsKept before table)
    (alive : is_alive (recorded given) owner ≡ true) (may : MayAsk (locks_in given) owner resource level) (room : HasRoom given 9)
    (events : after.events ≡ before.events ++ by owner (Ask resource level wait word) ∷ by owner (Grant resource level) ∷ []) (spare : after.spare + 2 ≡ before.spare) where
  -- The journal between the two.
  abbrev mid : Recording
  mid = record before { events = before.events ++ by owner (Ask resource level wait word) ∷ []; spare = after.spare + 1 }

  mid_spare : mid.spare + 1 ≡ before.spare
  mid_spare = omega (arith, spare)

  one_behind : after.events ≡ mid.events ++ by owner (Grant resource level) ∷ []
  one_behind = events ∙ sym (append_assoc before.events (by owner (Ask resource level wait word) ∷ []) (by owner (Grant resource level) ∷ []))

  pub kept_both : (next : LockState) → Granted ≡ answer_to_ask table owner resource level wait → next ≡ after_ask table owner resource level word Granted → IsKept after next
  kept_both next answers is = kept_granted given before mid table owner resource level wait word seen k alive may room refl mid_spare after next answers is one_behind refl

-- Who waits for nothing withdraws nothing.
nothing_filtered : (owner : ℕ) (rs : List Request) → find (is_wait_of owner) rs ≡ None → map (without_wait owner) (filter (λ r. not (is_bare_wait_of owner r)) rs) ≡ rs
nothing_filtered owner [] none = refl
nothing_filtered owner (r ∷ rs) none = go (is_wait_of owner r) refl none (nothing_filtered owner rs) where
  stays : is_wait_of owner r ≡ false → is_bare_wait_of owner r ≡ false
  stays idle = rw idle refl

  same : is_wait_of owner r ≡ false → without_wait owner r ≡ r
  same idle = step (r.owner == owner) refl r.waiting refl idle where
    step : (b : Bool) → r.owner == owner ≡ b → (w : Option Level) → r.waiting ≡ w → r.owner == owner && is_some r.waiting ≡ false → without_wait owner r ≡ r
    step false is w at idle' = rw is refl
    step true is None at idle' = rw is (ap (λ v. record r { waiting = v }) (sym at))
    step true is (Some l) at idle' = absurd (let waits : r.owner == owner && is_some r.waiting ≡ true = rw (is, at) refl in cc)

  go : (b : Bool) → is_wait_of owner r ≡ b → cond b (Some r) (find (is_wait_of owner) rs) ≡ None
      → (find (is_wait_of owner) rs ≡ None → map (without_wait owner) (filter (λ x. not (is_bare_wait_of owner x)) rs) ≡ rs)
      → map (without_wait owner) (filter (λ x. not (is_bare_wait_of owner x)) (r ∷ rs)) ≡ r ∷ rs
  go true is none' rest = absurd cc
  go false is none' rest = rw (stays is, same is, rest none') refl

pub nothing_withdrawn : (s : LockState) (owner : ℕ) → is_some (wait_of s owner) ≡ false → withdrawn s owner ≡ s
nothing_withdrawn s owner idle = ap (λ rs. record s { requests = rs }) (nothing_filtered owner s.requests (none (wait_of s owner) idle)) where
  none : (found : Option Request) → is_some found ≡ false → found ≡ None
  none None is = refl
  none (Some r) is = absurd cc

-- A withdrawal.
module _ (given before mid : Recording) (table : LockState) (owner : ℕ) (seen : before ≡ given) (k : IsKept before table) (room : HasRoom given 9)
    (events : mid.events ≡ before.events ++ by owner Withdraw ∷ []) (spare : mid.spare + 1 ≡ before.spare) where
  pub kept_withdrawn : (next : LockState) → next ≡ withdrawn table owner → IsKept mid next
  kept_withdrawn next is =
      kept_still before mid owner Withdraw refl events table next k spare (omega (arith, subst (λ j. HasRoom j 9) (sym seen) room)) is (rw is (come_withdrawn (recorded before) table owner k.come))

  pub stays_withdrawn : (next : LockState) → next ≡ withdrawn table owner → is_some (wait_of table owner) ≡ false → locks_in mid ≡ locks_in given
  stays_withdrawn next is idle = sym (kept_withdrawn next is).requests ∙ is ∙ nothing_withdrawn table owner idle ∙ k.requests ∙ ap locks_in seen

pub no_noted : (answer : Answer) → answer ≡ answers.Noted → answer ≡ answers.Granted → ⊥
no_noted answer noted granted = cc
