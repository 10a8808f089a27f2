-- Each change of the requests keeps the state lawful.
use Rattle.std.proofs.Common.{◌≡◌, ℕ, ◌+◌, ◌<◌, ◌≤◌, Bool, true, false, not, ◌&&◌, ◌==◌, if◌then◌else◌, List, [], ◌∷◌, ◌++◌, map, length, get_or, Option, Some, None, IfSome, is_some, refl, sym, ◌∙◌, arith, length-append, subst}
use Rattle.std.specs.List.{All, AllPairs, filter, find}
use Rattle.std.proofs.lemmas.List.{length-map}
use Rattle.std.proofs.lemmas.List.Elements.{All-push}
use Rattle.std.proofs.lemmas.List.Filters.{length-filter_both}
use Rattle.std.proofs.lemmas.List.Kept.{AllPairs-filter}
use Rattle.std.proofs.lemmas.List.Quantifiers.{all_pairs_push}
use Rattle.std.proofs.lemmas.Bool.Decides.{nat_tests}
use Rattle.fbc_levels.specs.declared.levels.Level.{Level}
use Rattle.fbc_levels.specs.declared.levels.Level.TheVariants.{Free}
use Rattle.fbc_levels.specs.declared.resources.Resource.{Resource}
use Rattle.fbc_levels.specs.declared.resources.Request.{Request}
use Rattle.fbc_levels.specs.Levels.{join}
use Rattle.fbc_levels.specs.LockState.{LockState, IsLawful, Lives, holder_of, lesser, is_dead_of, is_of, is_wait_of, granted_of, wait_of, request_of, stands_in_way, GoBeside, AreApart, WaitOnce, ShareFate}
use Rattle.fbc_lock_table.specs.Answers.{lacks_room}
use Rattle.fbc_lock_table.specs.Effects.{with_granted, with_waiting, without_wait, of_dead, granting, new_request, entered, MayGrant}
use Rattle.fbc_lock_table.proofs.Pairs.{AllPairs-map, NotBoth, find-only, none-find, none-any, none-reduce}
use Rattle.fbc_lock_table.proofs.Ways.{compatible-sym, is_of-owner, is_of-resource, is_of-self, beside-granted, beside-lowered, once-queued, once-fewer, beside-wait_granted, apart-new, alive-new, own_way, own_wait}

-- Nothing is asked of single requests.
abbrev pub Any : Request → Type 0
Any r = Unit {0}

pub any : (rs : List Request) → All Any rs
any rs k d within = tt

-- The requests that pass may be fewer.
pub filter_lawful : (s : LockState) (p : Request → Bool) → IsLawful s → IsLawful (record s { requests = filter p s.requests })
filter_lawful s p l =
    let fewer : length (filter p s.requests) + length (filter (λ r. not (p r)) s.requests) ≡ length s.requests = length-filter_both p (λ r. not (p r)) (λ r. refl) s.requests in
    record {
      beside = AllPairs-filter GoBeside p s.requests l.beside;
      apart = AllPairs-filter AreApart p s.requests l.apart;
      one_wait = AllPairs-filter WaitOnce p s.requests l.one_wait;
      one_fate = AllPairs-filter ShareFate p s.requests l.one_fate;
      room = omega (arith, l.room);
    }

-- A level is granted that nobody is in the way of.
pub granted_lawful : (s : LockState) (owner : ℕ) (resource : Resource) (level : Level) → All (λ r. stands_in_way owner resource level r ≡ false) s.requests → IsLawful s → IsLawful (record s { requests = map (with_granted owner resource level) s.requests })
granted_lawful s owner resource level free l =
    let f : Request → Request = with_granted owner resource level in
    record {
      beside = AllPairs-map GoBeside GoBeside (λ r. stands_in_way owner resource level r ≡ false) f (beside-granted owner resource level) s.requests free l.beside;
      apart = AllPairs-map AreApart AreApart Any f (λ r t _ _ h. h) s.requests (any s.requests) l.apart;
      one_wait = AllPairs-map WaitOnce WaitOnce Any f (λ r t _ _ h. h) s.requests (any s.requests) l.one_wait;
      one_fate = AllPairs-map ShareFate ShareFate Any f (λ r t _ _ h. h) s.requests (any s.requests) l.one_fate;
      room = omega (arith, length-map s.requests f, l.room);
    }

-- No two requests are of one owner and one resource.
only_one : (s : LockState) (owner : ℕ) (resource : Resource) → IsLawful s → AllPairs (NotBoth (is_of owner resource)) s.requests
only_one s owner resource l i j d below within a b =
    l.apart i j d below within
    (is_of-owner owner resource (get_or s.requests i d) a ∙ sym (is_of-owner owner resource (get_or s.requests j d) b))
    (is_of-resource owner resource (get_or s.requests i d) a ∙ sym (is_of-resource owner resource (get_or s.requests j d) b))

-- Each request of the owner for the resource is the one that is found.
pub the_request : (s : LockState) (owner : ℕ) (resource : Resource) → IsLawful s → All (λ r. is_of owner resource r ≡ true → request_of s owner resource ≡ Some r) s.requests
the_request s owner resource l = find-only (is_of owner resource) s.requests (only_one s owner resource l)

-- Each request is the one that is found by its owner and resource.
pub only_request : (s : LockState) (k : ℕ) (r : Request) → IsLawful s → k < length s.requests → r ≡ get_or s.requests k r → request_of s r.owner r.resource ≡ Some r
only_request s k r l within at =
    let Found : Request → Type 0 = λ y. is_of r.owner r.resource y ≡ true → request_of s r.owner r.resource ≡ Some y in
    subst Found (sym at) (the_request s r.owner r.resource l k r within) (is_of-self r)

-- The granted level is lowered.
pub lowered_lawful : (s : LockState) (owner : ℕ) (resource : Resource) (level : Level) → join (granted_of s owner resource) level ≡ granted_of s owner resource → IsLawful s → IsLawful (record s { requests = map (with_granted owner resource level) s.requests })
lowered_lawful s owner resource level gives l =
    let f : Request → Request = with_granted owner resource level in
    record {
      beside = AllPairs-map GoBeside GoBeside (λ r. is_of owner resource r ≡ true → join r.granted level ≡ r.granted) f (beside-lowered owner resource level) s.requests (λ k d within is. given (get_or s.requests k d) (the_request s owner resource l k d within is)) l.beside;
      apart = AllPairs-map AreApart AreApart Any f (λ r t _ _ h. h) s.requests (any s.requests) l.apart;
      one_wait = AllPairs-map WaitOnce WaitOnce Any f (λ r t _ _ h. h) s.requests (any s.requests) l.one_wait;
      one_fate = AllPairs-map ShareFate ShareFate Any f (λ r t _ _ h. h) s.requests (any s.requests) l.one_fate;
      room = omega (arith, length-map s.requests f, l.room);
    } where
      given : (r : Request) → request_of s owner resource ≡ Some r → join r.granted level ≡ r.granted
      given r is = rw is at gives

-- An owner that waits for nothing is queued.
pub queued_lawful : (s : LockState) (owner : ℕ) (resource : Resource) (level : Level) → All (λ r. is_wait_of owner r ≡ false) s.requests → IsLawful s → IsLawful (record s { requests = map (with_waiting owner resource level) s.requests })
queued_lawful s owner resource level none l =
    let f : Request → Request = with_waiting owner resource level in
    record {
      beside = AllPairs-map GoBeside GoBeside Any f (λ r t _ _ h. h) s.requests (any s.requests) l.beside;
      apart = AllPairs-map AreApart AreApart Any f (λ r t _ _ h. h) s.requests (any s.requests) l.apart;
      one_wait = AllPairs-map (λ r t. AreApart r t × WaitOnce r t) WaitOnce (λ r. is_wait_of owner r ≡ false) f (once-queued owner resource level) s.requests none (λ i j d below within. (l.apart i j d below within, l.one_wait i j d below within));
      one_fate = AllPairs-map ShareFate ShareFate Any f (λ r t _ _ h. h) s.requests (any s.requests) l.one_fate;
      room = omega (arith, length-map s.requests f, l.room);
    }

-- The owner waits no more.
pub cleared_lawful : (s : LockState) (owner : ℕ) → IsLawful s → IsLawful (record s { requests = map (without_wait owner) s.requests })
cleared_lawful s owner l =
    let f : Request → Request = without_wait owner in
    record {
      beside = AllPairs-map GoBeside GoBeside Any f (λ r t _ _ h. h) s.requests (any s.requests) l.beside;
      apart = AllPairs-map AreApart AreApart Any f (λ r t _ _ h. h) s.requests (any s.requests) l.apart;
      one_wait = AllPairs-map WaitOnce WaitOnce Any f (λ r t _ _ h. once-fewer r t (r.owner == owner) (t.owner == owner) h) s.requests (any s.requests) l.one_wait;
      one_fate = AllPairs-map ShareFate ShareFate Any f (λ r t _ _ h. h) s.requests (any s.requests) l.one_fate;
      room = omega (arith, length-map s.requests f, l.room);
    }

-- The owner is dead.
pub died_lawful : (s : LockState) (owner : ℕ) → IsLawful s → IsLawful (record s { requests = map (of_dead owner) s.requests })
died_lawful s owner l =
    let f : Request → Request = of_dead owner in
    record {
      beside = AllPairs-map GoBeside GoBeside Any f (λ r t _ _ h. h) s.requests (any s.requests) l.beside;
      apart = AllPairs-map AreApart AreApart Any f (λ r t _ _ h. h) s.requests (any s.requests) l.apart;
      one_wait = AllPairs-map WaitOnce WaitOnce Any f (λ r t _ _ h. h) s.requests (any s.requests) l.one_wait;
      one_fate = AllPairs-map ShareFate ShareFate Any f (λ r t _ _ h same. both r t (h same) same) s.requests (any s.requests) l.one_fate;
      room = omega (arith, length-map s.requests f, l.room);
    } where
      both : (r t : Request) → r.alive ≡ t.alive → r.owner ≡ t.owner → not (r.owner == owner) && r.alive ≡ not (t.owner == owner) && t.alive
      both r t alike same = cc

-- Nobody is in the way of what the request waits for.
abbrev MayBeGranted : LockState → ℕ → Resource → Request → Type 0
MayBeGranted s owner resource r = IfSome r.waiting (λ level. holder_of s owner resource level ≡ None)

-- The request does not keep the owner from any level that nobody is in the way of.
abbrev IsOutOfWay : LockState → ℕ → Resource → Request → Type 0
IsOutOfWay s owner resource r = (level : Level) → holder_of s owner resource level ≡ None → stands_in_way owner resource level r ≡ false

out_of_way : (s : LockState) (owner : ℕ) (resource : Resource) → All (IsOutOfWay s owner resource) s.requests
out_of_way s owner resource k d within level none = none-reduce lesser (stands_in_way owner resource level) s.requests none k d within

clear : (s : LockState) (owner : ℕ) (resource : Resource) (waiting : Option Level) (t : Request) → IfSome waiting (λ level. holder_of s owner resource level ≡ None) → IsOutOfWay s owner resource t → IfSome waiting (λ level. stands_in_way owner resource level t ≡ false)
clear s owner resource None t none free = tt
clear s owner resource (Some level) t none free = free level none

pub wait_granted_lawful : (s : LockState) (owner : ℕ) (resource : Resource) → MayGrant s owner resource → IsLawful s → IsLawful (record s { requests = map (granting owner resource) s.requests })
wait_granted_lawful s owner resource may l =
    let f : Request → Request = granting owner resource in
    record {
      beside = AllPairs-map GoBeside GoBeside (λ r. (is_of owner resource r ≡ true → MayBeGranted s owner resource r) × IsOutOfWay s owner resource r) f (λ r t p q. beside-wait_granted owner resource r t (λ is. clear s owner resource r.waiting t (p.0 is) q.1) (λ is. clear s owner resource t.waiting r (q.0 is) p.1)) s.requests (λ k d within. (λ is. given (get_or s.requests k d) (the_request s owner resource l k d within is), out_of_way s owner resource k d within)) l.beside;
      apart = AllPairs-map AreApart AreApart Any f (λ r t _ _ h. h) s.requests (any s.requests) l.apart;
      one_wait = AllPairs-map WaitOnce WaitOnce Any f (λ r t _ _ h. once-fewer r t (is_of owner resource r) (is_of owner resource t) h) s.requests (any s.requests) l.one_wait;
      one_fate = AllPairs-map ShareFate ShareFate Any f (λ r t _ _ h. h) s.requests (any s.requests) l.one_fate;
      room = omega (arith, length-map s.requests f, l.room);
    } where
      given : (r : Request) → request_of s owner resource ≡ Some r → MayBeGranted s owner resource r
      given r is = rw is at may

-- A new request is put behind all others.
pub new_lawful : (s : LockState) (owner : ℕ) (resource : Resource) (word : ℕ) → request_of s owner resource ≡ None → Lives s owner → length s.requests < s.capacity → IsLawful s → IsLawful (record s { requests = s.requests ++ new_request owner resource word ∷ [] })
new_lawful s owner resource word none lives room l =
    let new : Request = new_request owner resource word in
    record {
      beside = all_pairs_push GoBeside s.requests new l.beside (λ k d within same other. compatible-sym (get_or s.requests k d).granted Free);
      apart = all_pairs_push AreApart s.requests new l.apart (λ k d within. apart-new owner resource word (get_or s.requests k d) (none-find (is_of owner resource) s.requests none k d within));
      one_wait = all_pairs_push WaitOnce s.requests new l.one_wait (λ k d within same some. refl);
      one_fate = all_pairs_push ShareFate s.requests new l.one_fate (λ k d within. alive-new owner (get_or s.requests k d) (none-any (is_dead_of owner) s.requests lives k d within));
      room = omega (arith, length-append s.requests (new ∷ []));
    }

-- What an ask enters.
pub entered_lawful : (s : LockState) (owner : ℕ) (resource : Resource) (word : ℕ) → lacks_room s owner resource ≡ false → Lives s owner → IsLawful s → IsLawful (record s { requests = entered s.requests owner resource word })
entered_lawful s owner resource word room lives l = step (request_of s owner resource) refl where
  spare : (n m : ℕ) → true && (n == m) ≡ false → n ≤ m → n < m
  spare n m apart within = grind (arith, nat_tests)

  step : (o : Option Request) → request_of s owner resource ≡ o → IsLawful (record s { requests = if is_some o then s.requests else s.requests ++ new_request owner resource word ∷ [] })
  step None is = new_lawful s owner resource word is lives (spare (length s.requests) s.capacity (rw is at room) l.room) l
  step (Some r) is = l

pub entered_all : (P : Request → Type 0) (rs : List Request) (owner : ℕ) (resource : Resource) (word : ℕ) → All P rs → P (new_request owner resource word) → All P (entered rs owner resource word)
entered_all P rs owner resource word all here = step (find (is_of owner resource) rs) where
  step : (o : Option Request) → All P (if is_some o then rs else rs ++ new_request owner resource word ∷ [])
  step None = All-push P rs (new_request owner resource word) all here
  step (Some r) = all

-- An ask that is granted.
pub ask_granted_lawful : (s : LockState) (owner : ℕ) (resource : Resource) (level : Level) (word : ℕ) → lacks_room s owner resource ≡ false → holder_of s owner resource level ≡ None → Lives s owner → IsLawful s → IsLawful (record s { requests = map (with_granted owner resource level) (entered s.requests owner resource word) })
ask_granted_lawful s owner resource level word room none lives l =
    granted_lawful (record s { requests = entered s.requests owner resource word }) owner resource level
    (entered_all (λ r. stands_in_way owner resource level r ≡ false) s.requests owner resource word (none-reduce lesser (stands_in_way owner resource level) s.requests none) (own_way owner resource level word))
    (entered_lawful s owner resource word room lives l)

-- An ask that is queued.
pub ask_queued_lawful : (s : LockState) (owner : ℕ) (resource : Resource) (level : Level) (word : ℕ) → lacks_room s owner resource ≡ false → wait_of s owner ≡ None → Lives s owner → IsLawful s → IsLawful (record s { requests = map (with_waiting owner resource level) (entered s.requests owner resource word) })
ask_queued_lawful s owner resource level word room none lives l =
    queued_lawful (record s { requests = entered s.requests owner resource word }) owner resource level
    (entered_all (λ r. is_wait_of owner r ≡ false) s.requests owner resource word (none-find (is_wait_of owner) s.requests none) (own_wait owner resource word))
    (entered_lawful s owner resource word room lives l)
