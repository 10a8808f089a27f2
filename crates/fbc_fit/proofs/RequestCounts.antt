-- For how many pages an owner has requests, after a change of all requests.
use Rattle.std.proofs.Common.{◌≡◌, ℕ, suc, ◌≤◌, ◌<◌, Bool, true, false, not, if◌then◌else◌, List, [], ◌∷◌, ◌++◌, map, length, is_some, refl, arith}
use Rattle.std.proofs.lemmas.Grind.{common_steps}
use Rattle.std.specs.List.{filter, find}
use Rattle.fbc_levels.specs.declared.levels.Level.{Level}
use Rattle.fbc_levels.specs.declared.resources.Request.{Request}
use Rattle.fbc_levels.specs.declared.resources.Resource.{Resource}
use Rattle.fbc_levels.specs.LockState.{LockState, is_of, request_of}
use Rattle.fbc_lock_table.specs.declared.answers.Asked.{Asked}
use Rattle.fbc_lock_table.specs.declared.answers.Asked.TheVariants.{Granted, Queued}
use Rattle.fbc_lock_table.specs.Effects.{after_ask, entered as with_entered, is_bare_wait_of, new_request, with_waiting, withdrawn, without_wait}
use Rattle.fbc_owner_queues.specs.Circles.{circle_from}
use Rattle.fbc_world.specs.Holdings.{is_page_request_of}
use Rattle.fbc_world.specs.Locks.{asked, unless_circle}
use Rattle.fbc_fit.proofs.Counts.{count-map}
use Rattle.fbc_fit.proofs.Entering.{entered-there}

-- How many pages the owner asks for.
abbrev pub count_in : ℕ → List Request → ℕ
count_in owner requests = length (filter (is_page_request_of owner) requests)

-- Of fewer requests fewer are for pages.
pub count_filter : (p q : Request → Bool) (rs : List Request) → length (filter p (filter q rs)) ≤ length (filter p rs)
count_filter p q [] = grind (arith)
count_filter p q (r ∷ rs) = grind (arith, common_steps, count_filter p q rs)

-- Of one more request at most one more is.
count_push : (p : Request → Bool) (rs : List Request) (x : Request) → length (filter p (rs ++ x ∷ [])) ≡ (if p x then suc (length (filter p rs)) else length (filter p rs))
count_push p [] x = grind (arith, common_steps)
count_push p (r ∷ rs) x = grind (arith, common_steps, count_push p rs x)

module _ (other : ℕ) where
  -- A request is entered where there is room for it.
  few_entered : (rs : List Request) (owner : ℕ) (resource : Resource) (word room : ℕ) → (is_page_request_of other (new_request owner resource word) ≡ true → count_in other rs < room) → count_in other rs ≤ room → count_in other (with_entered rs owner resource word) ≤ room
  few_entered rs owner resource word room fresh few = go (is_some (find (is_of owner resource) rs)) where
    pushed : (t : Bool) → (t ≡ true → count_in other rs < room) → (if t then suc (count_in other rs) else count_in other rs) ≤ room
    pushed true fresh' = grind (arith, fresh' refl)
    pushed false fresh' = few

    go : (there : Bool) → count_in other (if there then rs else rs ++ new_request owner resource word ∷ []) ≤ room
    go true = few
    go false = rw (count_push (is_page_request_of other) rs (new_request owner resource word)) (pushed (is_page_request_of other (new_request owner resource word)) fresh)

  pub few_map : (f : Request → Request) → ((r : Request) → is_page_request_of other (f r) ≡ is_page_request_of other r) → (rs : List Request) (room : ℕ) → count_in other rs ≤ room → count_in other (map f rs) ≤ room
  few_map f same rs room few = rw (count-map (is_page_request_of other) f same rs) few

  pub few_withdrawn : (s : LockState) (owner room : ℕ) → count_in other s.requests ≤ room → count_in other (withdrawn s owner).requests ≤ room
  few_withdrawn s owner room few =
      few_map (without_wait owner) (λ r. refl) (filter (λ r. not (is_bare_wait_of owner r)) s.requests) room
      (grind (arith, few, count_filter (is_page_request_of other) (λ r. not (is_bare_wait_of owner r)) s.requests))

  few_unless : (s : LockState) (owner room : ℕ) → count_in other s.requests ≤ room → count_in other (unless_circle s owner).requests ≤ room
  few_unless s owner room few = go (is_some (circle_from s owner)) where
    go : (closes : Bool) → count_in other (if closes then withdrawn s owner else s).requests ≤ room
    go true = few_withdrawn s owner room few
    go false = few

  pub few_asked : (s : LockState) (owner : ℕ) (resource : Resource) (level : Level) (word room : ℕ) (answer : Asked) → (is_page_request_of other (new_request owner resource word) ≡ true → count_in other s.requests < room) → count_in other s.requests ≤ room
      → count_in other (asked s owner resource level word answer).requests ≤ room
  few_asked s owner resource level word room answer fresh few = go answer where
    queued : count_in other (after_ask s owner resource level word Queued).requests ≤ room
    queued = few_map (with_waiting owner resource level) (λ r. refl) (with_entered s.requests owner resource word) room (few_entered s.requests owner resource word room fresh few)

    go : (reply : Asked) → count_in other (asked s owner resource level word reply).requests ≤ room
    go Granted = queued
    go Queued = few_unless (after_ask s owner resource level word Queued) owner room queued
    go _ = few

  pub few_there : (s : LockState) (owner : ℕ) (resource : Resource) (f : Request → Request) → ((r : Request) → is_page_request_of other (f r) ≡ is_page_request_of other r) → (room : ℕ) → is_some (request_of s owner resource) ≡ true → count_in other s.requests ≤ room
      → count_in other (map f (with_entered s.requests owner resource 0)) ≤ room
  few_there s owner resource f same room there few = rw (entered-there s.requests owner resource 0 there) (few_map f same s.requests room few)
