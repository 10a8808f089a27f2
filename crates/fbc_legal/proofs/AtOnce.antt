-- Nobody is in the way of who has just asked for what is granted at once.
use Rattle.std.proofs.Common.{◌≡◌, ◌∙◌, ℕ, Bool, true, false, cond, ◌==◌, ◌&&◌, ◌||◌, if◌then◌else◌, List, [], ◌∷◌, ◌++◌, map, length, Option, Some, None, is_some, IsSome, refl, arith}
use Rattle.std.specs.List.{filter, find, list_any, reduce}
use Rattle.std.specs.Option.{option_and_then}
use Rattle.std.proofs.lemmas.Bool.Decides.{nat_tests}
use Rattle.std.proofs.lemmas.List.Folds.{list_any-append}
use Rattle.fbc_levels.specs.declared.levels.Level.{Level}
use Rattle.fbc_levels.specs.declared.resources.Request.{Request}
use Rattle.fbc_levels.specs.declared.resources.Resource.{Resource}
use Rattle.fbc_levels.specs.LockState.{LockState, dead_of, holder_of, is_of, is_wait_of, lesser, stands_in_way, wait_of}
use Rattle.fbc_levels.specs.Waits.{is_waited_for, waits_for}
use Rattle.fbc_lock_table.specs.declared.answers.Asked.TheVariants.{Granted, Queued}
use Rattle.fbc_lock_table.specs.Answers.{answer_beside, answer_in_full, answer_to_ask, lacks_room}
use Rattle.fbc_lock_table.specs.Effects.{after_ask, entered, new_request, with_waiting}
use Rattle.fbc_lock_table.proofs.Ways.{same_resource-self}
use Rattle.fbc_world.proofs.Found.{find_passes}
use Rattle.fbc_world.specs.History.{History}
use Rattle.fbc_world.specs.Locks.{locks_of, waiting_of}
use Rattle.fbc_legal.specs.Circles.{HasJustAsked}
use Rattle.fbc_legal.proofs.Pins.{clash}
use Rattle.fbc_legal.proofs.ListTests.{any_implied, any_mapped, found_image}

-- None passes where there is no least of those that pass.
none_passes : (p : Request → Bool) (rs : List Request) → reduce lesser (filter p rs) ≡ None → list_any p rs ≡ false
none_passes p [] none = refl
none_passes p (r ∷ rs) none = go (p r) (none_passes p rs) none where
  go : (b : Bool) → (reduce lesser (filter p rs) ≡ None → list_any p rs ≡ false) → reduce lesser (cond b (r ∷ filter p rs) (filter p rs)) ≡ None → b || list_any p rs ≡ false
  go true rest is = absurd cc
  go false rest is = rest is

-- And there is no least where none passes.
no_least : (p : Request → Bool) (rs : List Request) → list_any p rs ≡ false → reduce lesser (filter p rs) ≡ None
no_least p [] none = refl
no_least p (r ∷ rs) none = go (p r) (no_least p rs) none where
  go : (b : Bool) → (list_any p rs ≡ false → reduce lesser (filter p rs) ≡ None) → b || list_any p rs ≡ false → reduce lesser (cond b (r ∷ filter p rs) (filter p rs)) ≡ None
  go true rest is = absurd cc
  go false rest is = rest is

module _ (owner : ℕ) (resource : Resource) (level : Level) where
  abbrev in_way : Request → Bool
  in_way r = stands_in_way owner resource level r

  -- An ask is granted at once where nobody is in the way.
  pub granted_free : (s : LockState) (wait : Bool) → answer_to_ask s owner resource level wait ≡ Granted → list_any in_way s.requests ≡ false
  granted_free s wait is = none_passes in_way s.requests (go (lacks_room s owner resource) (dead_of s) (holder_of s owner resource level) is) where
    beside : (holder : Request) (alive waits : Bool) → answer_beside waits (Some holder) ≡ Granted → ⊥
    beside holder alive waits is' = grind (arith, is')

    go : (b : Bool) (buried holder : Option Request) → (if b then answer_in_full (length s.requests) buried else answer_beside wait holder) ≡ Granted → holder ≡ None
    go true None holder is' = absurd cc
    go true (Some r) holder is' = absurd cc
    go false buried None is' = refl
    go false buried (Some r) is' = absurd (beside r r.alive wait is')

  -- It is in nobody's way itself, and no more are in its way when it waits.
  abbrev queued : LockState → ℕ → List Request
  queued s word = map (with_waiting owner resource level) (entered s.requests owner resource word)

  still_free : (s : LockState) (word : ℕ) → list_any in_way s.requests ≡ false → list_any in_way (queued s word) ≡ false
  still_free s word free = go (list_any in_way (queued s word)) refl where
    no_new : list_any in_way (entered s.requests owner resource word) ≡ false
    no_new = new (is_some (find (is_of owner resource) s.requests)) where
      alone : (a b : Bool) → a ≡ false → b ≡ false → a || (b || false) ≡ false
      alone a b e k = grind (arith, e, k)

      new : (b : Bool) → list_any in_way (if b then s.requests else s.requests ++ new_request owner resource word ∷ []) ≡ false
      new true = free
      new false = list_any-append in_way s.requests (new_request owner resource word ∷ []) ∙ alone _ _ free (grind (arith, nat_tests))

    go : (b : Bool) → list_any in_way (queued s word) ≡ b → b ≡ false
    go true is = absurd (clash _ no_new (any_mapped in_way in_way (with_waiting owner resource level) (λ x way. way) (entered s.requests owner resource word) is))
    go false is = refl

-- Of the owner's wait for the resource, nobody is in the way of it.
pub record IsUnblocked (s : LockState) (owner : ℕ) (resource : Resource) : Type 0 where
  pub level : Level
  pub free : list_any (stands_in_way owner resource level) s.requests ≡ false
  pub by_wait : (wait : Request) → wait_of s owner ≡ Some wait → wait.owner ≡ owner → wait.resource ≡ resource → wait.waiting ≡ Some level
  pub by_request : (wanted : Level) → waiting_of s owner resource ≡ Some wanted → wanted ≡ level

-- What a queued ask waits for is found as it was asked.
abbrev WaitsAsAsked : ℕ → Resource → Level → Request → Type 0
WaitsAsAsked owner resource level r = is_of owner resource r ≡ true → r.waiting ≡ Some level

waits_as_asked : (owner : ℕ) (resource : Resource) (level : Level) (x : Request) → WaitsAsAsked owner resource level (with_waiting owner resource level x)
waits_as_asked owner resource level x is = grind (arith, is)

pub unblocked-queued : (owner : ℕ) (resource : Resource) (level : Level) (s : LockState) (word : ℕ) → list_any (stands_in_way owner resource level) s.requests ≡ false
    → IsUnblocked (after_ask s owner resource level word Queued) owner resource
unblocked-queued owner resource level s word free = record {
  level = level;
  free = still_free owner resource level s word free;
  by_wait = λ wait found its same.
      found_image (is_wait_of owner) (with_waiting owner resource level) (WaitsAsAsked owner resource level) (waits_as_asked owner resource level) (entered s.requests owner resource word) wait found
      (grind (arith, nat_tests, its, same, same_resource-self resource));
  by_request = λ wanted is. go (find (is_of owner resource) (queued owner resource level s word)) refl wanted is;
} where
  go : (o : Option Request) → find (is_of owner resource) (queued owner resource level s word) ≡ o → (wanted : Level) → option_and_then (λ (r : Request). r.waiting) o ≡ Some wanted → wanted ≡ level
  go None found wanted is = absurd cc
  go (Some r) found wanted is =
      let waits : r.waiting ≡ Some level =
      found_image (is_of owner resource) (with_waiting owner resource level) (WaitsAsAsked owner resource level) (waits_as_asked owner resource level) (entered s.requests owner resource word) r found
      (find_passes (is_of owner resource) (queued owner resource level s word) r found) in
      cc

pub unblocked-just : (history : History) (owner : ℕ) (resource : Resource) → HasJustAsked history owner resource → IsUnblocked (locks_of history) owner resource
unblocked-just [] owner resource just = absurd just
unblocked-just (last ∷ before) owner resource just =
    rw (just.actor, just.act, just.free) (unblocked-queued owner resource just.level (locks_of before) just.word (granted_free owner resource just.level (locks_of before) just.wait just.free))

module _ (s : LockState) (owner : ℕ) (resource : Resource) (u : IsUnblocked s owner resource) where
  pub waits_for_nobody : (wait : Request) (other : ℕ) → wait_of s owner ≡ Some wait → wait.owner ≡ owner → wait.resource ≡ resource → waits_for s owner other ≡ true → ⊥
  waits_for_nobody wait other found its same waits =
      clash _ u.free
      (any_implied (λ r. (r.owner == other) && is_waited_for wait r) (stands_in_way owner resource u.level) (λ r is. grind (arith, is, its, same, u.by_wait wait found its same)) s.requests (rw found at waits))

  pub not_blocked : (wanted : Level) → waiting_of s owner resource ≡ Some wanted → IsSome (holder_of s owner resource wanted) → ⊥
  not_blocked wanted waits blocked =
      let none : holder_of s owner resource wanted ≡ None = rw (u.by_request wanted waits) (no_least (stands_in_way owner resource u.level) s.requests u.free) in
      absurd (clash false refl (rw none at blocked))
