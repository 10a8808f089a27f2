-- What is known of a lock, after its owner's wait is withdrawn.
use Rattle.std.proofs.Common.{Bool, ◌≡◌, ◌∙◌, inl, inr, ap, ℕ, true, false, not, if◌then◌else◌, Option, Some, None, refl, sym, subst, arith, List, is_some}
use Rattle.std.proofs.lemmas.Bool.Decides.{nat_tests}
use Rattle.std.specs.List.{filter}
use Rattle.std.specs.Option.{option_and_then, option_map}
use Rattle.fbc_levels.specs.declared.levels.Level.{Level}
use Rattle.fbc_levels.specs.declared.levels.Level.TheVariants.{Free}
use Rattle.fbc_levels.specs.declared.resources.Request.{Request}
use Rattle.fbc_levels.specs.declared.resources.Resource.{Resource}
use Rattle.fbc_levels.specs.declared.resources.Series.{Series}
use Rattle.fbc_levels.specs.declared.resources.Series.TheVariants as series
use Rattle.fbc_levels.specs.LockState.{LockState, is_of, is_wait_of, request_of, wait_of}
use Rattle.fbc_levels.specs.Resources.{is_same_series}
use Rattle.fbc_lock_table.specs.declared.answers.Asked.TheVariants.{Queued}
use Rattle.fbc_lock_table.specs.Answers.{answer_to_ask}
use Rattle.fbc_lock_table.specs.Effects.{after_ask, is_bare_wait_of, withdrawn, without_wait}
use Rattle.fbc_lock_table.proofs.Pairs.{find-only}
use Rattle.fbc_owner_queues.specs.Circles.{circle_from}
use Rattle.fbc_world.specs.declared.events.Act.TheVariants as act
use Rattle.fbc_world.specs.Locks.{asked, locks_step}
use Rattle.fbc_world.proofs.Apart.{IsApart, apart_queued, once}
use Rattle.fbc_world.proofs.Found.{find_filter-once, find_map, find_passes}
use Rattle.fbc_fit.specs.Fit.{KnownLock}
use Rattle.fbc_fit.specs.KnownLocks.{KnowsLock, asked_lock, lowered_lock}
use Rattle.fbc_fit.proofs.LocksKnown.{TellsOf, knows-asked, waits-for}
use Rattle.fbc_fit.proofs.Waited.{found_one}

same-series : (s : Series) → is_same_series s s ≡ true
same-series series.Page = refl
same-series series.Transaction = refl
same-series series.Relation = refl

-- What the requests say once the wait has ended: nothing of a bare wait.
abbrev left_of : ℕ → Request → Option Request
left_of owner r = if not (is_bare_wait_of owner r) then Some r else None

module _ (s : LockState) (owner : ℕ) (apart : IsApart s) where
  withdrawn-is : (resource : Resource) → request_of (withdrawn s owner) owner resource ≡ option_map (without_wait owner) (option_and_then (left_of owner) (request_of s owner resource))
  withdrawn-is resource =
      find_map (is_of owner resource) (without_wait owner) (λ r. refl) (filter (λ r. not (is_bare_wait_of owner r)) s.requests)
      ∙ ap (option_map (without_wait owner)) (find_filter-once (is_of owner resource) (λ r. not (is_bare_wait_of owner r)) s.requests (once owner resource s.requests apart))

  -- A lock that is not waited for.
  idle-left : (r : Request) → r.waiting ≡ None → left_of owner r ≡ Some r
  idle-left r none = rw none (grind (arith, none))

  ends-idle : (r : Request) → r.waiting ≡ None → (without_wait owner r).waiting ≡ r.waiting
  ends-idle r none = grind (arith, nat_tests, none)

  tells-idle : (known : Option KnownLock) (found : Option Request) → option_and_then (λ (k : KnownLock). k.wanted) known ≡ None → TellsOf known found → TellsOf known (option_map (without_wait owner) (option_and_then (left_of owner) found))
  tells-idle None None idle tells = tells
  tells-idle (Some k) None idle tells = absurd tells
  tells-idle None (Some r) idle tells = absurd tells
  tells-idle (Some k) (Some r) idle (inl same) =
      let none : r.waiting ≡ None = same.1 ∙ idle in
      subst (λ (x : Option Request). TellsOf (Some k) (option_map (without_wait owner) x)) (sym (idle-left r none)) (inl (same.0, ends-idle r none ∙ same.1))
  tells-idle (Some k) (Some r) idle (inr late) = absurd (let no : None ≡ Some r.granted = sym idle ∙ late.0 in cc)

  pub knows-unwithdrawn : (resource : Resource) (known : Option KnownLock) → option_and_then (λ (k : KnownLock). k.wanted) known ≡ None → KnowsLock s owner resource known → KnowsLock (withdrawn s owner) owner resource known
  knows-unwithdrawn resource known idle knows = subst (TellsOf known) (sym (withdrawn-is resource)) (tells-idle known (request_of s owner resource) idle knows)

  -- The lock that is waited for.
  own-request-of : (r : Request) → is_wait_of owner r ≡ true → is_of owner r.resource r ≡ true
  own-request-of r waits = grind (arith, nat_tests, waits, same-series r.resource.series)

  waits-by : (wait : Request) → wait_of s owner ≡ Some wait → request_of s owner wait.resource ≡ Some wait
  waits-by wait found =
      found_one (λ x. is_of owner wait.resource x ≡ true → request_of s owner wait.resource ≡ Some x) (is_wait_of owner) s.requests
      (find-only (is_of owner wait.resource) s.requests (once owner wait.resource s.requests apart)) wait found
      (own-request-of wait (find_passes (is_wait_of owner) s.requests wait found))

  bare : (r : Request) → is_wait_of owner r ≡ true → r.granted ≡ Free → left_of owner r ≡ None
  bare r waits free = grind (arith, waits, free)

  held : (r : Request) (level : Level) → r.granted ≡ level → (level ≡ Free → ⊥) → left_of owner r ≡ Some r
  held r level is some = grind (arith, is, some)

  ended : (r : Request) → is_wait_of owner r ≡ true → (without_wait owner r).waiting ≡ None
  ended r waits = grind (arith, nat_tests, waits)

  tells-ended : (level : Level) (r : Request) → is_wait_of owner r ≡ true → r.granted ≡ level → TellsOf (lowered_lock level) (option_map (without_wait owner) (left_of owner r))
  tells-ended Free r waits is = subst (λ (x : Option Request). TellsOf None (option_map (without_wait owner) x)) (sym (bare r waits is)) refl
  tells-ended level r waits is = subst (λ (x : Option Request). TellsOf (lowered_lock level) (option_map (without_wait owner) x)) (sym (held r level is (λ no. absurd (cc)))) (inl (is, ended r waits))

  tells-withdrawn : (known : KnownLock) (r : Request) → is_wait_of owner r ≡ true → TellsOf (Some known) (Some r) → TellsOf (lowered_lock known.level) (option_map (without_wait owner) (left_of owner r))
  tells-withdrawn known r waits (inl same) = tells-ended known.level r waits same.0
  tells-withdrawn known r waits (inr late) = absurd (let no : false ≡ true = grind (arith, waits, late.1) in cc)

  pub knows-withdrawn : (wait : Request) (known : KnownLock) → wait_of s owner ≡ Some wait → KnowsLock s owner wait.resource (Some known) → KnowsLock (withdrawn s owner) owner wait.resource (lowered_lock known.level)
  knows-withdrawn wait known found knows =
      let is = waits-by wait found in
      subst (TellsOf (lowered_lock known.level)) (sym (withdrawn-is wait.resource ∙ ap (λ (x : Option Request). option_map (without_wait owner) (option_and_then (left_of owner) x)) is))
      (tells-withdrawn known wait (find_passes (is_wait_of owner) s.requests wait found) (subst (TellsOf (Some known)) is knows))

-- An ask that would close a circle of waits: what it would wait for is withdrawn.
module _ (s : LockState) (owner : ℕ) (on : Resource) (level : Level) (word : ℕ) (apart : IsApart s) where
  abbrev queued : LockState
  queued = after_ask s owner on level word Queued

  queued-waits : (found : Option Request) → request_of queued owner on ≡ found → option_and_then (λ (r : Request). r.waiting) found ≡ Some level
  queued-waits found is = sym (ap (option_and_then (λ (r : Request). r.waiting)) is) ∙ waits-for s owner on level word

  waits-owned : (r : Request) → is_of owner on r ≡ true → r.waiting ≡ Some level → is_wait_of owner r ≡ true
  waits-owned r its waits = grind (arith, its, waits)

  pub knows-circled : (known : Option KnownLock) → wait_of s owner ≡ None → KnowsLock s owner on known → KnowsLock (withdrawn queued owner) owner on (lowered_lock (asked_lock known level).level)
  knows-circled known free knows =
      subst (TellsOf (lowered_lock (asked_lock known level).level)) (sym (withdrawn-is queued owner (apart_queued s owner on level word apart) on))
      (go (request_of queued owner on) refl (knows-asked s owner on level word known free knows)) where
        go : (found : Option Request) → request_of queued owner on ≡ found → TellsOf (Some (asked_lock known level)) found
            → TellsOf (lowered_lock (asked_lock known level).level) (option_map (without_wait owner) (option_and_then (left_of owner) found))
        go None is tells = absurd tells
        go (Some r) is tells =
            let its : is_of owner on r ≡ true = find_passes (is_of owner on) queued.requests r is in
            tells-withdrawn queued owner (apart_queued s owner on level word apart) (asked_lock known level) r (waits-owned r its (queued-waits (Some r) is)) tells

pub circled-asks : (s : LockState) (owner : ℕ) (on : Resource) (level : Level) (wait : Bool) (word : ℕ) (circle : List ℕ) → answer_to_ask s owner on level wait ≡ Queued
    → circle_from (after_ask s owner on level word Queued) owner ≡ Some circle → locks_step s owner (act.Ask on level wait word) ≡ withdrawn (after_ask s owner on level word Queued) owner
circled-asks s owner on level wait word circle answer closes =
    ap (asked s owner on level word) answer
    ∙ ap (λ (found : Option (List ℕ)). if is_some found then withdrawn (after_ask s owner on level word Queued) owner else after_ask s owner on level word Queued) closes
