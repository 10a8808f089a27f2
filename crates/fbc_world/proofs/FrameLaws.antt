-- What one owner does, and what it leaves of another's.
use Rattle.std.proofs.Common.{◌≡◌, ◌≢◌, ◌==◌, ◌∙◌, ◌++◌, ◌∷◌, [], refl, ℕ, Bool, true, false, not, List, if◌then◌else◌, arith}
use Rattle.std.specs.Prelude.{filter, is_some, map}
use Rattle.std.proofs.lemmas.Bool.Decides.{nat_tests}
use Rattle.std.proofs.lemmas.Grind.{common_steps}
use Rattle.fbc_levels.specs.declared.levels.Level.{Level}
use Rattle.fbc_levels.specs.declared.levels.Level.TheVariants.{Free, Null, Sr, Pr, Sw, Pw, Ex}
use Rattle.fbc_levels.specs.declared.resources.Request.{Request}
use Rattle.fbc_levels.specs.declared.resources.Resource.{Resource}
use Rattle.fbc_levels.specs.LockState.{LockState, is_of}
use Rattle.fbc_lock_table.specs.declared.answers.Asked.{Asked}
use Rattle.fbc_lock_table.specs.declared.answers.Asked.TheVariants.{Granted, Queued}
use Rattle.fbc_lock_table.specs.Answers.{answer_to_ask}
use Rattle.fbc_lock_table.specs.Effects.{after_ask, died, entered, is_bare_wait_of, new_request, of_dead, with_granted, with_waiting, withdrawn, without_wait}
use Rattle.fbc_owner_queues.specs.Circles.{circle_from}
use Rattle.fbc_world.specs.declared.events.Act.{Act}
use Rattle.fbc_world.specs.declared.events.Act.TheVariants.{Ask, Die, Grant, Lower, Opened, Reap, Withdraw, Write}
use Rattle.fbc_world.specs.Frames.{is_purge_of, requests_of}
use Rattle.fbc_world.specs.Locks.{asked, locks_step, with_grant}

module _ (owner other : ℕ) (apart : owner ≢ other) where
  -- A change of the owner's requests alone changes none of the other's.
  own-map : (f : Request → Request) → ((x : Request) → (f x).owner ≡ x.owner) → ((x : Request) → x.owner ≢ owner → f x ≡ x)
      → (rs : List Request) → filter (λ (r : Request). r.owner == other) (map f rs) ≡ filter (λ (r : Request). r.owner == other) rs
  own-map f owners others [] = refl
  own-map f owners others (x ∷ rs) = grind (arith, nat_tests, common_steps, apart, owners x, others x, own-map f owners others rs)

  own-filter : (q : Request → Bool) → ((x : Request) → x.owner ≢ owner → q x ≡ true)
      → (rs : List Request) → filter (λ (r : Request). r.owner == other) (filter q rs) ≡ filter (λ (r : Request). r.owner == other) rs
  own-filter q others [] = refl
  own-filter q others (x ∷ rs) = grind (arith, nat_tests, common_steps, apart, others x, own-filter q others rs)

  own-behind : (x : Request) → x.owner ≡ owner → (rs : List Request) → filter (λ (r : Request). r.owner == other) (rs ++ x ∷ []) ≡ filter (λ (r : Request). r.owner == other) rs
  own-behind x is [] = grind (arith, nat_tests, common_steps, apart, is)
  own-behind x is (y ∷ rs) = grind (arith, nat_tests, common_steps, apart, is, own-behind x is rs)

  own-entered : (rs : List Request) (resource : Resource) (word : ℕ) → filter (λ (r : Request). r.owner == other) (entered rs owner resource word) ≡ filter (λ (r : Request). r.owner == other) rs
  own-entered rs resource word = grind (arith, common_steps, own-behind (new_request owner resource word) refl rs)

  own-queued : (s : LockState) (resource : Resource) (level : Level) (word : ℕ) → requests_of (after_ask s owner resource level word Queued) other ≡ requests_of s other
  own-queued s resource level word =
      own-map (with_waiting owner resource level) (λ x. refl) (λ x spared. grind (arith, nat_tests, spared)) (entered s.requests owner resource word) ∙ own-entered s.requests resource word

  own-withdrawn : (s : LockState) → requests_of (withdrawn s owner) other ≡ requests_of s other
  own-withdrawn s =
      own-map (without_wait owner) (λ x. refl) (λ x spared. grind (arith, nat_tests, spared)) (filter (λ r. not (is_bare_wait_of owner r)) s.requests)
      ∙ own-filter (λ r. not (is_bare_wait_of owner r)) (λ x spared. grind (arith, nat_tests, spared)) s.requests

  own-died : (s : LockState) → requests_of (died s owner) other ≡ requests_of s other
  own-died s = own-map (of_dead owner) (λ x. refl) (λ x spared. grind (arith, nat_tests, spared)) s.requests

  own-circle : (s : LockState) (closes : Bool) → requests_of (if closes then withdrawn s owner else s) other ≡ requests_of s other
  own-circle s true = own-withdrawn s
  own-circle s false = refl

  own-asked : (s : LockState) (resource : Resource) (level : Level) (word : ℕ) (answer : Asked) → requests_of (asked s owner resource level word answer) other ≡ requests_of s other
  own-asked s resource level word Granted = own-queued s resource level word
  own-asked s resource level word Queued =
      own-circle (after_ask s owner resource level word Queued) (is_some (circle_from (after_ask s owner resource level word Queued) owner)) ∙ own-queued s resource level word
  own-asked s resource level word _ = refl

  own-lowered : (s : LockState) (resource : Resource) (level : Level)
      → filter (λ (r : Request). r.owner == other) (map (with_granted owner resource level) (entered s.requests owner resource 0)) ≡ requests_of s other
  own-lowered s resource level =
      own-map (with_granted owner resource level) (λ x. refl) (λ x spared. grind (arith, nat_tests, spared)) (entered s.requests owner resource 0) ∙ own-entered s.requests resource 0

  own-write : (s : LockState) (failed : Bool) → requests_of (if failed then died s owner else s) other ≡ requests_of s other
  own-write s true = own-died s
  own-write s false = refl

  reaped-other : (dead : ℕ) → dead == other ≡ false → (rs : List Request)
      → filter (λ (r : Request). r.owner == other) (filter (λ (r : Request). not (r.owner == dead)) rs) ≡ filter (λ (r : Request). r.owner == other) rs
  reaped-other dead spared [] = refl
  reaped-other dead spared (x ∷ rs) = grind (arith, nat_tests, common_steps, spared, reaped-other dead spared rs)

  pub requests-frame : (s : LockState) (act : Act) → is_purge_of other act ≡ false → requests_of (locks_step s owner act) other ≡ requests_of s other
  requests-frame s (Opened locks) spared = absurd cc
  requests-frame s (Ask resource level wait word) spared = own-asked s resource level word (answer_to_ask s owner resource level wait)
  requests-frame s (Grant resource level) spared =
      own-map (with_grant owner resource level) (λ x. refl) (λ x spared. grind (arith, nat_tests, spared)) (entered s.requests owner resource 0) ∙ own-entered s.requests resource 0
  requests-frame s Withdraw spared = own-withdrawn s
  requests-frame s (Lower resource Free) spared = own-filter (λ r. not (is_of owner resource r)) (λ x spared. grind (arith, nat_tests, spared)) s.requests
  requests-frame s (Lower resource Null) spared = own-lowered s resource Null
  requests-frame s (Lower resource Sr) spared = own-lowered s resource Sr
  requests-frame s (Lower resource Pr) spared = own-lowered s resource Pr
  requests-frame s (Lower resource Sw) spared = own-lowered s resource Sw
  requests-frame s (Lower resource Pw) spared = own-lowered s resource Pw
  requests-frame s (Lower resource Ex) spared = own-lowered s resource Ex
  requests-frame s (Reap dead by) spared = reaped-other dead spared s.requests
  requests-frame s (Write page cause failed) spared = own-write s failed
  requests-frame s Die spared = own-died s
  requests-frame s _ spared = refl
