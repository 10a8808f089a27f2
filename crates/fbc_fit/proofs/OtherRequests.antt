-- An owner's requests for pages, after what it asks for no page.
use Rattle.std.proofs.Common.{◌≡◌, ◌≢◌, ◌∙◌, ap, ℕ, Bool, true, false, not, ◌==◌, if◌then◌else◌, [], ◌∷◌, ◌++◌, List, map, None, is_some, refl, arith}
use Rattle.std.proofs.lemmas.Bool.Decides.{nat_tests}
use Rattle.std.proofs.lemmas.List.Folds.{list_any-append}
use Rattle.std.specs.List.{find, list_any}
use Rattle.fbc_levels.specs.declared.levels.Level.{Level}
use Rattle.fbc_levels.specs.declared.levels.Level.TheVariants.{Free}
use Rattle.fbc_levels.specs.declared.resources.Request.{Request}
use Rattle.fbc_levels.specs.declared.resources.Resource.{Resource}
use Rattle.fbc_levels.specs.LockState.{LockState, is_of, is_wait_of, wait_of}
use Rattle.fbc_lock_table.specs.declared.answers.Asked.{Asked}
use Rattle.fbc_lock_table.specs.declared.answers.Asked.TheVariants.{Granted, Queued}
use Rattle.fbc_lock_table.specs.Effects.{after_ask, entered, new_request, with_granted, with_waiting, withdrawn}
use Rattle.fbc_owner_queues.specs.Circles.{circle_from}
use Rattle.fbc_world.specs.Holdings.{is_page_request_of}
use Rattle.fbc_world.specs.Locks.{asked, granted_to, lowered_to, with_grant, without_owner}
use Rattle.fbc_legal.proofs.ListTests.{list_any-map, none_any}
use Rattle.fbc_cache.specs.Wants.{is_page_series}
use Rattle.fbc_fit.proofs.PageRequests.{ends, is_page_wait, same-both, same-entered, same-filter, same-map, same-self, same-withdrawn}
use Rattle.fbc_fit.proofs.SamePages.{HasSameRequests}

-- Who waits for nothing waits for no page.
pub no_page_waits : (s : LockState) (owner : ℕ) → wait_of s owner ≡ None → list_any (is_page_wait owner) s.requests ≡ false
no_page_waits s owner free = none_any (is_wait_of owner) (is_page_wait owner) (λ r is. grind (arith, is)) s.requests free

pub same-unwaiting : (s : LockState) (owner : ℕ) → wait_of s owner ≡ None → HasSameRequests owner s.requests (withdrawn s owner).requests
same-unwaiting s owner free = same-withdrawn owner s.requests (no_page_waits s owner free)

pub same-reaped : (s : LockState) (owner dead : ℕ) → dead ≢ owner → HasSameRequests owner s.requests (without_owner s dead).requests
same-reaped s owner dead apart = same-filter owner (λ r. not (r.owner == dead)) (λ r is. grind (arith, nat_tests, is, apart)) s.requests

module _ (owner : ℕ) (resource : Resource) (other : is_page_series resource ≡ false) where
  -- A request for a page is none for the resource.
  differs : (r : Request) → is_page_request_of owner r ≡ true → is_of owner resource r ≡ false
  differs r is = grind (arith, nat_tests, other, is)

  waiting-left : (level : Level) (r : Request) → is_page_request_of owner r ≡ true → with_waiting owner resource level r ≡ r
  waiting-left level r is = rw (differs r is) refl

  grant-left : (level : Level) (r : Request) → is_page_request_of owner r ≡ true → with_grant owner resource level r ≡ r
  grant-left level r is = rw (differs r is) refl

  granted-left : (level : Level) (r : Request) → is_page_request_of owner r ≡ true → with_granted owner resource level r ≡ r
  granted-left level r is = rw (differs r is) refl

  module _ (s : LockState) where
    entered-map : (f : Request → Request) → ((r : Request) → (f r).owner ≡ r.owner) → ((r : Request) → (f r).resource ≡ r.resource) → ((r : Request) → is_page_request_of owner r ≡ true → f r ≡ r)
        → (word : ℕ) → HasSameRequests owner s.requests (map f (entered s.requests owner resource word))
    entered-map f by of keeps word =
        same-both owner s.requests (entered s.requests owner resource word) (map f (entered s.requests owner resource word))
        (same-entered owner resource word other s.requests) (same-map owner f by of keeps (entered s.requests owner resource word))

    same-queued : (level : Level) (word : ℕ) → HasSameRequests owner s.requests (after_ask s owner resource level word Queued).requests
    same-queued level word = entered-map (with_waiting owner resource level) (λ r. refl) (λ r. refl) (waiting-left level) word

    pub same-granted : (level : Level) → HasSameRequests owner s.requests (granted_to s owner resource level).requests
    same-granted level = entered-map (with_grant owner resource level) (λ r. refl) (λ r. refl) (grant-left level) 0

    pub same-lowered : (level : Level) → HasSameRequests owner s.requests (lowered_to s owner resource level).requests
    same-lowered Free = same-filter owner (λ r. not (is_of owner resource r)) (λ r is. rw (differs r is) refl) s.requests
    same-lowered level = entered-map (with_granted owner resource level) (λ r. refl) (λ r. refl) (granted-left level) 0

    -- After the ask it waits for no page either.
    page_wait_left : (level : Level) (r : Request) → is_page_wait owner (with_waiting owner resource level r) ≡ is_page_wait owner r
    page_wait_left level r = go (is_page_request_of owner r) refl where
      go : (own : Bool) → is_page_request_of owner r ≡ own → is_page_wait owner (with_waiting owner resource level r) ≡ is_page_wait owner r
      go true own = ap (is_page_wait owner) (waiting-left level r own)
      go false own = grind (arith, own)

    module _ (free : wait_of s owner ≡ None) (level : Level) (word : ℕ) where
      entered-unwaiting : (there : Bool) → list_any (is_page_wait owner) (if there then s.requests else s.requests ++ new_request owner resource word ∷ []) ≡ false
      entered-unwaiting true = no_page_waits s owner free
      entered-unwaiting false = grind (arith, list_any-append (is_page_wait owner) s.requests (new_request owner resource word ∷ []), no_page_waits s owner free)

      any_same : (p q : Request → Bool) → ((r : Request) → p r ≡ q r) → (rs : List Request) → list_any p rs ≡ list_any q rs
      any_same p q same [] = refl
      any_same p q same (r ∷ rs) = grind (arith, same r, any_same p q same rs)

      queued-unwaiting : list_any (is_page_wait owner) (after_ask s owner resource level word Queued).requests ≡ false
      queued-unwaiting =
          list_any-map (is_page_wait owner) (with_waiting owner resource level) (entered s.requests owner resource word)
          ∙ any_same (λ r. is_page_wait owner (with_waiting owner resource level r)) (is_page_wait owner) (page_wait_left level) (entered s.requests owner resource word)
          ∙ entered-unwaiting (is_some (find (is_of owner resource) s.requests))

      abbrev queued : LockState
      queued = after_ask s owner resource level word Queued

      unless : (circle : Bool) → HasSameRequests owner s.requests (if circle then withdrawn queued owner else queued).requests
      unless true = same-both owner s.requests queued.requests (ends owner queued.requests) (same-queued level word) (same-withdrawn owner queued.requests queued-unwaiting)
      unless false = same-queued level word

      pub same-asked : (answer : Asked) → HasSameRequests owner s.requests (asked s owner resource level word answer).requests
      same-asked Granted = same-queued level word
      same-asked Queued = unless (is_some (circle_from queued owner))
      same-asked _ = same-self owner s.requests
