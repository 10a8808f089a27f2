-- What an ask for a page, and its grant at once, leave of the requests.
use Rattle.std.proofs.Common.{◌≡◌, ◌∙◌, ap, ℕ, Bool, true, false, if◌then◌else◌, List, [], ◌∷◌, ◌++◌, map, Option, Some, None, is_some, refl, arith}
use Rattle.std.proofs.lemmas.Bool.Decides.{nat_tests}
use Rattle.std.proofs.lemmas.List.Folds.{find-append}
use Rattle.std.specs.List.{find, list_any}
use Rattle.fbc_levels.specs.declared.levels.Level.{Level}
use Rattle.fbc_levels.specs.declared.resources.Request.{Request}
use Rattle.fbc_levels.specs.declared.resources.Resource.{Resource}
use Rattle.fbc_levels.specs.LockState.{LockState, is_of, is_wait_of, request_of, wait_of}
use Rattle.fbc_lock_table.specs.declared.answers.Asked.{Asked}
use Rattle.fbc_lock_table.specs.declared.answers.Asked.TheVariants.{Granted, Queued}
use Rattle.fbc_lock_table.specs.Answers.{answer_to_ask}
use Rattle.fbc_lock_table.specs.Effects.{after_ask, entered, new_request, with_waiting, withdrawn}
use Rattle.fbc_lock_table.proofs.Ways.{own_wait}
use Rattle.fbc_owner_queues.specs.Circles.{circle_from}
use Rattle.fbc_world.specs.Locks.{asked, granted_to, waiting_of, with_grant}
use Rattle.fbc_legal.proofs.Waiters.{waits_wanted, withdrawn_waits_not}
use Rattle.fbc_buffers.specs.declared.buffers.Buffer.{Buffer}
use Rattle.fbc_buffers.specs.Holding.{granted_buffer, granted_wait, is_waiting, waiting_buffer}
use Rattle.fbc_fit.proofs.Entering.{entered-there}

module _ (s : LockState) (owner : ℕ) (resource : Resource) (level : Level) (word : ℕ) where
  abbrev queued : LockState
  queued = after_ask s owner resource level word Queued

  -- It waits, and closes no circle.
  pub asked-queued : (wait : Bool) → answer_to_ask s owner resource level wait ≡ Queued → circle_from queued owner ≡ None → asked s owner resource level word (answer_to_ask s owner resource level wait) ≡ queued
  asked-queued wait answer circle = ap (asked s owner resource level word) answer ∙ ap (λ (found : Option (List ℕ)). if is_some found then withdrawn queued owner else queued) circle

  -- Who waits for what it has just asked for entered its request.
  pub asked-waits : request_of s owner resource ≡ None → (answer : Asked) → waiting_of (asked s owner resource level word answer) owner resource ≡ Some level → asked s owner resource level word answer ≡ queued
  asked-waits none Granted waits = refl
  asked-waits none Queued waits = unless (is_some (circle_from queued owner)) waits where
    unless : (circle : Bool) → waiting_of (if circle then withdrawn queued owner else queued) owner resource ≡ Some level → (if circle then withdrawn queued owner else queued) ≡ queued
    unless true waits' = absurd (withdrawn_waits_not owner resource queued (waits_wanted owner resource (withdrawn queued owner) level waits'))
    unless false waits' = refl
  asked-waits none _ waits = absurd (let no : None ≡ Some level = rw none at waits in cc)

  -- Nothing else was waited for: after the grant nothing is.
  module _ (free : wait_of s owner ≡ None) where
    entered-free : (there : Bool) → find (is_wait_of owner) (if there then s.requests else s.requests ++ new_request owner resource word ∷ []) ≡ None
    entered-free true = free
    entered-free false = find-append (is_wait_of owner) s.requests (new_request owner resource word ∷ []) ∙ grind (arith, free, own_wait owner resource word)

    granted-free : (rs : List Request) → find (is_wait_of owner) rs ≡ None → find (is_wait_of owner) (map (with_grant owner resource level) (map (with_waiting owner resource level) rs)) ≡ None
    granted-free [] none = refl
    granted-free (r ∷ rs) none = go (is_wait_of owner r) refl (granted-free rs) none where
      here : is_wait_of owner r ≡ false → is_wait_of owner (with_grant owner resource level (with_waiting owner resource level r)) ≡ false
      here is = grind (arith, nat_tests, is)

      go : (waits : Bool) → is_wait_of owner r ≡ waits → (find (is_wait_of owner) rs ≡ None → find (is_wait_of owner) (map (with_grant owner resource level) (map (with_waiting owner resource level) rs)) ≡ None)
          → (if waits then Some r else find (is_wait_of owner) rs) ≡ None
          → find (is_wait_of owner) (map (with_grant owner resource level) (map (with_waiting owner resource level) (r ∷ rs))) ≡ None
      go true is rest none' = absurd (cc)
      go false is rest none' = grind (arith, here is, rest none')

    pub granted-waits-not : is_some (request_of queued owner resource) ≡ true → wait_of (granted_to queued owner resource level) owner ≡ None
    granted-waits-not there =
        ap (λ (rs : List Request). find (is_wait_of owner) (map (with_grant owner resource level) rs)) (entered-there queued.requests owner resource 0 there)
        ∙ granted-free (entered s.requests owner resource word) (entered-free (is_some (find (is_of owner resource) s.requests)))

-- A buffer that waits for nothing stays as it is, and the one that waits is granted.
waits-not : (b : Buffer) → is_waiting b ≡ false → granted_wait b ≡ b
waits-not b none = go b.wanted refl where
  go : (wanted : Option Level) → b.wanted ≡ wanted → granted_wait b ≡ b
  go None is = grind (arith, is)
  go (Some level) is = absurd (grind (arith, is, none))

pub learnt-last : (page : ℕ) (level : Level) (held : List Buffer) → list_any is_waiting held ≡ false → map granted_wait (held ++ waiting_buffer page level ∷ []) ≡ held ++ granted_buffer page level ∷ []
learnt-last page level [] none = refl
learnt-last page level (b ∷ bs) none = grind (arith, none, waits-not b, learnt-last page level bs)
