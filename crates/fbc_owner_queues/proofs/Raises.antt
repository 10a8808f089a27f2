-- Where each wait is a raise of what is granted, it is so after every call.
use Rattle.std.proofs.Common.{◌≡◌, ℕ, Bool, true, false, not, ◌==◌, if◌then◌else◌, List, map, get_or, Option, Some, None, IfSome, is_some, unwrap_or, refl, arith}
use Rattle.std.specs.List.{All, filter}
use Rattle.std.proofs.lemmas.List.Elements.{All-map, All-filter}
use Rattle.fbc_levels.specs.declared.levels.Level.{Level}
use Rattle.fbc_levels.specs.declared.levels.Level.TheVariants.{Free, Null, Sr, Pr, Sw, Pw, Ex}
use Rattle.fbc_levels.specs.declared.resources.Resource.{Resource}
use Rattle.fbc_levels.specs.declared.resources.Request.{Request}
use Rattle.fbc_levels.specs.Levels.{join}
use Rattle.fbc_levels.specs.LockState.{LockState, IsLawful, is_of, is_wait_of, granted_of, request_of}
use Rattle.fbc_lock_table.specs.declared.answers.Asked.{Asked}
use Rattle.fbc_lock_table.specs.declared.answers.Asked.TheVariants.{Granted, Queued, Busy, Room, Dead}
use Rattle.fbc_lock_table.specs.Answers.{MayAsk}
use Rattle.fbc_lock_table.specs.Effects.{with_granted, with_waiting, without_wait, is_bare_wait_of, of_dead, granting, entered, after_ask, lowered, withdrawn, died}
use Rattle.fbc_lock_table.proofs.Pairs.{none-find}
use Rattle.fbc_lock_table.proofs.Ways.{is_of-owner, waits_not, own_wait}
use Rattle.fbc_lock_table.proofs.Lawful.{the_request, entered_all}
use Rattle.fbc_owner_queues.specs.Grants.{next_grant, with_grant, first_of, without_request}
use Rattle.fbc_owner_queues.specs.Turns.{WantsMore, AllWantMore}

-- A raise of a level is a raise of each level below that.
lower_more : (held lower wanted : Level) → join held wanted ≡ wanted → join held lower ≡ held → join lower wanted ≡ wanted
lower_more held lower wanted more gives = grind (arith)

-- Requests that pass, and requests that each are changed.
module _ (s : LockState) (all : AllWantMore s) where
  kept_by : (f : Request → Request) → ((r : Request) → WantsMore r → WantsMore (f r)) → All WantsMore (map f s.requests)
  kept_by f keeps = All-map WantsMore f s.requests (λ k d within. keeps (get_or s.requests k d) (all k d within))

  fewer : (p : Request → Bool) → All WantsMore (filter p s.requests)
  fewer p = All-filter p WantsMore s.requests all

-- Who waits by none of its requests wants more whatever it is granted.
waits_for_nothing : (owner : ℕ) (resource : Resource) (level : Level) (r : Request) → is_wait_of owner r ≡ false → WantsMore r → WantsMore (with_granted owner resource level r)
waits_for_nothing owner resource level r none more = step (is_of owner resource r) refl where
  idle : (waiting : Option Level) → is_some waiting ≡ false → IfSome waiting (λ wanted. join level wanted ≡ wanted)
  idle None is = tt
  idle (Some wanted) is = absurd (cc)

  step : (b : Bool) → is_of owner resource r ≡ b → IfSome r.waiting (λ wanted. join (if b then level else r.granted) wanted ≡ wanted)
  step true is = idle r.waiting (waits_not owner r none (is_of-owner owner resource r is))
  step false is = more

-- Who is queued for a raise wants more.
queued : (owner : ℕ) (resource : Resource) (level : Level) (r : Request) → (is_of owner resource r ≡ true → join r.granted level ≡ level) → WantsMore r → WantsMore (with_waiting owner resource level r)
queued owner resource level r raises more = step (is_of owner resource r) raises where
  step : (b : Bool) → (b ≡ true → join r.granted level ≡ level) → IfSome (if b then Some level else r.waiting) (λ wanted. join r.granted wanted ≡ wanted)
  step true raises' = raises' refl
  step false raises' = more

-- What is asked is a raise for each request of the owner for the resource.
raise_of_each : (s : LockState) (owner : ℕ) (resource : Resource) (level : Level) → IsLawful s → join (granted_of s owner resource) level ≡ level → All (λ r. is_of owner resource r ≡ true → join r.granted level ≡ level) s.requests
raise_of_each s owner resource level l raises k d within is = given (get_or s.requests k d) (the_request s owner resource l k d within is) where
  given : (r : Request) → request_of s owner resource ≡ Some r → join r.granted level ≡ level
  given r found = rw found at raises

raise_of_none : (level : Level) → join Free level ≡ level
raise_of_none level = grind (arith)

-- An ask.
asked_more : (s : LockState) (owner : ℕ) (resource : Resource) (level : Level) (word : ℕ) (answer : Asked) → IsLawful s → MayAsk s owner resource level → join (granted_of s owner resource) level ≡ level → AllWantMore s → AllWantMore (after_ask s owner resource level word answer)
asked_more s owner resource level word Granted l may raises all =
    All-map WantsMore (with_granted owner resource level) (entered s.requests owner resource word)
    (λ k d within. waits_for_nothing owner resource level (get_or (entered s.requests owner resource word) k d) (idle k d within) (entered_all WantsMore s.requests owner resource word all tt k d within)) where
      idle : All (λ r. is_wait_of owner r ≡ false) (entered s.requests owner resource word)
      idle = entered_all (λ r. is_wait_of owner r ≡ false) s.requests owner resource word (none-find (is_wait_of owner) s.requests may.waits_for_nothing) (own_wait owner resource word)
asked_more s owner resource level word Queued l may raises all =
    All-map WantsMore (with_waiting owner resource level) (entered s.requests owner resource word)
    (λ k d within. queued owner resource level (get_or (entered s.requests owner resource word) k d) (each k d within) (entered_all WantsMore s.requests owner resource word all tt k d within)) where
      each : All (λ r. is_of owner resource r ≡ true → join r.granted level ≡ level) (entered s.requests owner resource word)
      each = entered_all (λ r. is_of owner resource r ≡ true → join r.granted level ≡ level) s.requests owner resource word (raise_of_each s owner resource level l raises) (λ is. raise_of_none level)
asked_more s owner resource level word (Busy holder held) l may raises all = all
asked_more s owner resource level word (Room used) l may raises all = all
asked_more s owner resource level word (Dead dead) l may raises all = all

pub ask_keeps : (s : LockState) (owner : ℕ) (resource : Resource) (level : Level) (word : ℕ) (answer : Asked) → IsLawful s → MayAsk s owner resource level → join (granted_of s owner resource) level ≡ level → AllWantMore s → AllWantMore (after_ask s owner resource level word answer)
ask_keeps = asked_more

-- A lowering.
lower_keeps_one : (owner : ℕ) (resource : Resource) (level : Level) (r : Request) → (is_of owner resource r ≡ true → join r.granted level ≡ r.granted) → WantsMore r → WantsMore (with_granted owner resource level r)
lower_keeps_one owner resource level r gives more = step (is_of owner resource r) gives where
  below : (waiting : Option Level) → IfSome waiting (λ wanted. join r.granted wanted ≡ wanted) → join r.granted level ≡ r.granted → IfSome waiting (λ wanted. join level wanted ≡ wanted)
  below None more' gives' = tt
  below (Some wanted) more' gives' = lower_more r.granted level wanted more' gives'

  step : (b : Bool) → (b ≡ true → join r.granted level ≡ r.granted) → IfSome r.waiting (λ wanted. join (if b then level else r.granted) wanted ≡ wanted)
  step true gives' = below r.waiting more (gives' refl)
  step false gives' = more

pub lower_keeps : (s : LockState) (owner : ℕ) (resource : Resource) (level : Level) → IsLawful s → join (granted_of s owner resource) level ≡ granted_of s owner resource → AllWantMore s → AllWantMore (lowered s owner resource level)
lower_keeps s owner resource level l gives all = step level gives where
  given : (new : Level) (r : Request) → join (granted_of s owner resource) new ≡ granted_of s owner resource → request_of s owner resource ≡ Some r → join r.granted new ≡ r.granted
  given new r gives' found = rw found at gives'

  set : (new : Level) → join (granted_of s owner resource) new ≡ granted_of s owner resource → All WantsMore (map (with_granted owner resource new) s.requests)
  set new gives' = All-map WantsMore (with_granted owner resource new) s.requests
      (λ k d within. lower_keeps_one owner resource new (get_or s.requests k d) (λ is. given new (get_or s.requests k d) gives' (the_request s owner resource l k d within is)) (all k d within))

  step : (new : Level) → join (granted_of s owner resource) new ≡ granted_of s owner resource → AllWantMore (lowered s owner resource new)
  step Free gives' = fewer s all (λ r. not (is_of owner resource r))
  step Null gives' = set Null gives'
  step Sr gives' = set Sr gives'
  step Pr gives' = set Pr gives'
  step Sw gives' = set Sw gives'
  step Pw gives' = set Pw gives'
  step Ex gives' = set Ex gives'

-- A withdrawal.
withdraw_keeps_one : (owner : ℕ) (r : Request) → WantsMore r → WantsMore (without_wait owner r)
withdraw_keeps_one owner r more = step (r.owner == owner) where
  step : (b : Bool) → IfSome (if b then None else r.waiting) (λ wanted. join r.granted wanted ≡ wanted)
  step true = tt
  step false = more

pub withdraw_keeps : (s : LockState) (owner : ℕ) → AllWantMore s → AllWantMore (withdrawn s owner)
withdraw_keeps s owner all =
    let rest : List Request = filter (λ r. not (is_bare_wait_of owner r)) s.requests in
    kept_by (record s { requests = rest }) (fewer s all (λ r. not (is_bare_wait_of owner r))) (without_wait owner) (withdraw_keeps_one owner)

-- A death.
pub die_keeps : (s : LockState) (owner : ℕ) → AllWantMore s → AllWantMore (died s owner)
die_keeps s owner all = kept_by s all (of_dead owner) (λ r more. more)

-- A grant.
grant_keeps_one : (owner : ℕ) (resource : Resource) (r : Request) → WantsMore r → WantsMore (granting owner resource r)
grant_keeps_one owner resource r more = step (is_of owner resource r) where
  step : (b : Bool) → IfSome (if b then None else r.waiting) (λ wanted. join (if b then unwrap_or r.waiting r.granted else r.granted) wanted ≡ wanted)
  step true = tt
  step false = more

pub grant_keeps : (s : LockState) (resource : Resource) → AllWantMore s → AllWantMore (with_grant s (next_grant s resource))
grant_keeps s resource all = step (next_grant s resource) where
  step : (o : Option Request) → AllWantMore (with_grant s o)
  step None = all
  step (Some r) = kept_by s all (granting r.owner r.resource) (grant_keeps_one r.owner r.resource)

-- A purge of one request.
pub purge_keeps : (s : LockState) (owner : ℕ) → AllWantMore s → AllWantMore (without_request s (first_of s owner))
purge_keeps s owner all = step (first_of s owner) where
  step : (o : Option Request) → AllWantMore (without_request s o)
  step None = all
  step (Some r) = fewer s all (λ q. not (is_of r.owner r.resource q))
