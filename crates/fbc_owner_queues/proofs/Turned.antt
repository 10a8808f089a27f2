-- One pass through the requests grants what repeated grants of the first do.
use Rattle.std.proofs.Common.{◌≡◌, ◌≢◌, ℕ, zero, suc, ◌≤◌, Bool, true, false, cond, not, ◌||◌, ◌&&◌, ◌==◌, if◌then◌else◌, List, [], ◌∷◌, ◌++◌, map, length, Option, Some, None, IfSome, is_none, unwrap_or, append_assoc, refl, sym, ◌∙◌, ap, subst, arith}
use Rattle.std.specs.List.{AllPairs, AllByRecursion, find, filter, fold, list_any, reduce}
use Rattle.std.specs.Option.{option_map_or}
use Rattle.std.proofs.lemmas.List.{map-append}
use Rattle.std.proofs.lemmas.List.Elements.{recursion_from_All}
use Rattle.std.proofs.Math.Bool.{and-false, or-true}
use Rattle.std.proofs.lemmas.Bool.{not-false}
use Rattle.fbc_levels.specs.declared.levels.Level.{Level}
use Rattle.fbc_levels.specs.declared.resources.Resource.{Resource}
use Rattle.fbc_levels.specs.declared.resources.Request.{Request}
use Rattle.fbc_levels.specs.Levels.{is_compatible, join}
use Rattle.fbc_levels.specs.Resources.{is_same_resource}
use Rattle.fbc_levels.specs.LockState.{LockState, IsLawful, is_of, request_of, holder_of, lesser, stands_in_way, AreApart}
use Rattle.fbc_lock_table.specs.Effects.{MayGrant, granting, after_grant}
use Rattle.fbc_lock_table.proofs.Pairs.{AllPairs-head, AllPairs-tail}
use Rattle.fbc_lock_table.proofs.Ways.{is_of-owner, is_of-resource, is_of-self}
use Rattle.fbc_lock_table.proofs.Lawful.{wait_granted_lawful, the_request}
use Rattle.fbc_owner_queues.specs.Grants.{is_clear, is_grantable, next_grant, with_grant}
use Rattle.fbc_owner_queues.specs.Turns.{visited, passed, granted_times, WantsMore, AllWantMore}

-- What holds of each holds of one in the middle.
all_mid : {X : Type 0} (P : X → Type 0) (xs : List X) (y : X) (ys : List X) → AllByRecursion P (xs ++ y ∷ ys) → P y
all_mid P [] y ys all = all.0
all_mid P (x ∷ xs) y ys all = all_mid P xs y ys all.1

-- Those before one and those behind it are related to it.
pairs_before : {X : Type 0} (R : X → X → Type 0) (xs : List X) (y : X) (ys : List X) → AllPairs R (xs ++ y ∷ ys) → AllByRecursion (λ x. R x y) xs
pairs_before R [] y ys pairs = tt
pairs_before R (x ∷ xs) y ys pairs =
    (all_mid (R x) xs y ys (recursion_from_All (R x) (xs ++ y ∷ ys) (AllPairs-head R x (xs ++ y ∷ ys) pairs)), pairs_before R xs y ys (AllPairs-tail R x (xs ++ y ∷ ys) pairs))

pairs_behind : {X : Type 0} (R : X → X → Type 0) (xs : List X) (y : X) (ys : List X) → AllPairs R (xs ++ y ∷ ys) → AllByRecursion (R y) ys
pairs_behind R [] y ys pairs = recursion_from_All (R y) ys (AllPairs-head R y ys pairs)
pairs_behind R (x ∷ xs) y ys pairs = pairs_behind R xs y ys (AllPairs-tail R x (xs ++ y ∷ ys) pairs)

-- A request that is apart from this one is not of its owner and resource.
other_of : (r q : Request) → (q.owner ≡ r.owner → q.resource ≢ r.resource) → is_of r.owner r.resource q ≡ false
other_of r q apart = step (is_of r.owner r.resource q) refl where
  step : (b : Bool) → is_of r.owner r.resource q ≡ b → b ≡ false
  step true is = absurd (apart (is_of-owner r.owner r.resource q is) (is_of-resource r.owner r.resource q is))
  step false is = refl

-- Such requests stay as they are.
grant_keeps : (owner : ℕ) (resource : Resource) (q : Request) → is_of owner resource q ≡ false → granting owner resource q ≡ q
grant_keeps owner resource q other = rw other refl

map_keeps : (owner : ℕ) (resource : Resource) (qs : List Request) → AllByRecursion (λ q. is_of owner resource q ≡ false) qs → map (granting owner resource) qs ≡ qs
map_keeps owner resource [] all = refl
map_keeps owner resource (q ∷ qs) all = rw (grant_keeps owner resource q all.0, map_keeps owner resource qs all.1) refl

weaker : {X : Type 0} (P Q : X → Type 0) → ((x : X) → P x → Q x) → (xs : List X) → AllByRecursion P xs → AllByRecursion Q xs
weaker P Q gives [] all = tt
weaker P Q gives (x ∷ xs) all = (gives x all.0, weaker P Q gives xs all.1)

joined : {X : Type 0} (P : X → Type 0) (xs ys : List X) → AllByRecursion P xs → AllByRecursion P ys → AllByRecursion P (xs ++ ys)
joined P [] ys first second = second
joined P (x ∷ xs) ys first second = (first.0, joined P xs ys first.1 second)

-- The requests after a grant.
after_requests : (done : List Request) (r : Request) (rest : List Request) → AllPairs AreApart (done ++ r ∷ rest) → map (granting r.owner r.resource) (done ++ r ∷ rest) ≡ done ++ granting r.owner r.resource r ∷ rest
after_requests done r rest apart =
    let before = map_keeps r.owner r.resource done (weaker (λ q. AreApart q r) (λ q. is_of r.owner r.resource q ≡ false) (λ q a. other_of r q a) done (pairs_before AreApart done r rest apart)) in
    let behind = map_keeps r.owner r.resource rest (weaker (AreApart r) (λ q. is_of r.owner r.resource q ≡ false) (λ q a. other_of r q (λ same alike. a (sym same) (sym alike))) rest (pairs_behind AreApart done r rest apart)) in
    map-append (granting r.owner r.resource) done (r ∷ rest) ∙ rw (before, behind) refl

-- Somebody is in the way where a test finds one.
none_in_way : (p : Request → Bool) (rs : List Request) → is_none (reduce lesser (filter p rs)) ≡ not (list_any p rs)
none_in_way p [] = refl
none_in_way p (r ∷ rs) = step (p r) (none_in_way p rs) where
  step : (b : Bool) → is_none (reduce lesser (filter p rs)) ≡ not (list_any p rs) → is_none (reduce lesser (cond b (r ∷ filter p rs) (filter p rs))) ≡ not (b || list_any p rs)
  step true rest = refl
  step false rest = rest

-- A level that conflicts with the old one conflicts with a greater one.
rises : (old new level : Level) → join old new ≡ new → is_compatible level old ≡ false → is_compatible level new ≡ false
rises old new level more conflict = grind (arith)

more_waited : (waiting : Option Level) (held level : Level) → IfSome waiting (λ wanted. join held wanted ≡ wanted) → is_compatible level held ≡ false → is_compatible level (unwrap_or waiting held) ≡ false
more_waited None held level more conflict = conflict
more_waited (Some wanted) held level more conflict = rises held wanted level more conflict

-- Who was in the way is so after a grant.
parts : (a b : Bool) (old new : Bool) → (old ≡ false → new ≡ false) → (a && b && not old) ≡ true → (a && b && not new) ≡ true
parts true true old new stays is = step old new stays is where
  step : (o n : Bool) → (o ≡ false → n ≡ false) → not o ≡ true → not n ≡ true
  step true n stays' is' = absurd (cc)
  step false n stays' is' = rw (stays' refl) refl
parts true false old new stays is = absurd (cc)
parts false b old new stays is = absurd (cc)

stays_in_way : (owner : ℕ) (resource : Resource) (o : ℕ) (res : Resource) (level : Level) (q : Request) → WantsMore q → stands_in_way owner resource level q ≡ true → stands_in_way owner resource level (granting o res q) ≡ true
stays_in_way owner resource o res level q more is =
    parts (is_same_resource q.resource resource) (not (q.owner == owner)) (is_compatible level q.granted) (is_compatible level (granting o res q).granted) (step (is_of o res q)) is where
      step : (b : Bool) → is_compatible level q.granted ≡ false → is_compatible level (if b then unwrap_or q.waiting q.granted else q.granted) ≡ false
      step true conflict = more_waited q.waiting q.granted level more conflict
      step false conflict = conflict

any_stays : (owner : ℕ) (resource : Resource) (o : ℕ) (res : Resource) (level : Level) (rs : List Request) → AllByRecursion WantsMore rs → list_any (stands_in_way owner resource level) rs ≡ true → list_any (stands_in_way owner resource level) (map (granting o res) rs) ≡ true
any_stays owner resource o res level [] more any = absurd (cc)
any_stays owner resource o res level (q ∷ rs) more any = step (stands_in_way owner resource level q) refl any (any_stays owner resource o res level rs more.1) where
  step : (b : Bool) → stands_in_way owner resource level q ≡ b → b || list_any (stands_in_way owner resource level) rs ≡ true → (list_any (stands_in_way owner resource level) rs ≡ true → list_any (stands_in_way owner resource level) (map (granting o res) rs) ≡ true) → list_any (stands_in_way owner resource level) (map (granting o res) (q ∷ rs)) ≡ true
  step true is any' rest = rw (stays_in_way owner resource o res level q more.0 is) refl
  step false is any' rest = rw (rest any') (or-true (stands_in_way owner resource level (granting o res q)))

module _ (t : LockState) (o : ℕ) (res : Resource) (more : AllByRecursion WantsMore t.requests) where
  -- Who could not be granted what it waits for cannot after another's grant.
  clear_stays : (q : Request) (waiting : Option Level) → option_map_or (λ level. is_none (holder_of t q.owner q.resource level)) waiting false ≡ false → option_map_or (λ level. is_none (holder_of (after_grant t o res) q.owner q.resource level)) waiting false ≡ false
  clear_stays q None not_clear = refl
  clear_stays q (Some level) not_clear =
      let found = not-false (list_any (stands_in_way q.owner q.resource level) t.requests) (sym (none_in_way (stands_in_way q.owner q.resource level) t.requests) ∙ not_clear) in
      let stays = any_stays q.owner q.resource o res level t.requests more found in
      none_in_way (stands_in_way q.owner q.resource level) (map (granting o res) t.requests) ∙ rw stays refl

  grantable_stays : (resource : Resource) (q : Request) → is_grantable t resource q ≡ false → is_grantable (after_grant t o res) resource q ≡ false
  grantable_stays resource q none = step (is_same_resource q.resource resource && q.alive) (is_clear t q) (clear_stays q q.waiting) none where
    step : (a c : Bool) → (c ≡ false → is_clear (after_grant t o res) q ≡ false) → (a && c) ≡ false → (a && is_clear (after_grant t o res) q) ≡ false
    step true c stays none' = stays none'
    step false c stays none' = refl

  -- Each still wants more.
  more_kept : (q : Request) → WantsMore q → WantsMore (granting o res q)
  more_kept q wants = step (is_of o res q) where
    step : (b : Bool) → IfSome (if b then None else q.waiting) (λ level. join (if b then unwrap_or q.waiting q.granted else q.granted) level ≡ level)
    step true = tt
    step false = wants

  all_more_kept : (rs : List Request) → AllByRecursion WantsMore rs → AllByRecursion WantsMore (map (granting o res) rs)
  all_more_kept [] all = tt
  all_more_kept (q ∷ rs) all = (more_kept q all.0, all_more_kept rs all.1)

-- Who was granted what it waited for waits no more.
granted_waits_not : (t : LockState) (resource : Resource) (r : Request) → is_grantable t resource (granting r.owner r.resource r) ≡ false
granted_waits_not t resource r = rw (is_of-self r) (and-false (is_same_resource r.resource resource && r.alive))

-- A search passes over those that do not pass.
find_behind : {X : Type 0} (p : X → Bool) (xs ys : List X) → AllByRecursion (λ x. p x ≡ false) xs → find p (xs ++ ys) ≡ find p ys
find_behind p [] ys none = refl
find_behind p (x ∷ xs) ys none = rw none.0 (find_behind p xs ys none.1)

-- A request that can be granted may be.
may_grant : (t : LockState) (resource : Resource) (r : Request) → is_grantable t resource r ≡ true → request_of t r.owner r.resource ≡ Some r → MayGrant t r.owner r.resource
may_grant t resource r can found = rw found (clear r.waiting (second (is_same_resource r.resource resource && r.alive) (is_clear t r) can)) where
  second : (a b : Bool) → (a && b) ≡ true → b ≡ true
  second true b is = is
  second false b is = absurd (cc)

  nobody : (h : Option Request) → is_none h ≡ true → h ≡ None
  nobody None is = refl
  nobody (Some h) is = absurd (cc)

  clear : (waiting : Option Level) → option_map_or (λ level. is_none (holder_of t r.owner r.resource level)) waiting false ≡ true → IfSome waiting (λ level. holder_of t r.owner r.resource level ≡ None)
  clear None is = tt
  clear (Some level) is = nobody (holder_of t r.owner r.resource level) is

-- What is left of a pass comes to so many grants of the first, and then nobody can be granted.
record Turns (resource : Resource) (t after : LockState) (rest : List Request) : Type 0 where
  times : ℕ
  few : times ≤ length rest
  same : granted_times times resource t ≡ after
  end : next_grant after resource ≡ None

turns : (resource : Resource) (rest done : List Request) (t : LockState) → t.requests ≡ done ++ rest → IsLawful t → AllByRecursion WantsMore t.requests → AllByRecursion (λ q. is_grantable t resource q ≡ false) done → Turns resource t (fold (visited resource) t rest) rest
turns resource [] done t are l more none = record {
  times = 0;
  few = omega arith;
  same = refl;
  end = ap (find (is_grantable t resource)) are ∙ find_behind (is_grantable t resource) done [] none;
}
turns resource (r ∷ rest) done t are l more none = step (is_grantable t resource r) refl (λ done' t' are' l' more' none'. turns resource rest done' t' are' l' more' none') where
  found : request_of t r.owner r.resource ≡ Some r
  found =
      let All' : List Request → Type 0 = AllByRecursion (λ q. is_of r.owner r.resource q ≡ true → request_of t r.owner r.resource ≡ Some q) in
      let each : All' t.requests = recursion_from_All (λ q. is_of r.owner r.resource q ≡ true → request_of t r.owner r.resource ≡ Some q) t.requests (the_request t r.owner r.resource l) in
      all_mid (λ q. is_of r.owner r.resource q ≡ true → request_of t r.owner r.resource ≡ Some q) done r rest (subst All' are each) (is_of-self r)

  apart : AllPairs AreApart (done ++ r ∷ rest)
  apart = subst (AllPairs AreApart) are l.apart

  step : (b : Bool) → is_grantable t resource r ≡ b → ((done' : List Request) (t' : LockState) → t'.requests ≡ done' ++ rest → IsLawful t' → AllByRecursion WantsMore t'.requests → AllByRecursion (λ q. is_grantable t' resource q ≡ false) done' → Turns resource t' (fold (visited resource) t' rest) rest) → Turns resource t (fold (visited resource) (if b then after_grant t r.owner r.resource else t) rest) (r ∷ rest)
  step false cannot go =
      let on = go (done ++ r ∷ []) t (are ∙ sym (append_assoc done (r ∷ []) rest)) l more (joined (λ q. is_grantable t resource q ≡ false) done (r ∷ []) none (cannot, tt)) in
      record { times = on.times; few = omega (arith, on.few); same = on.same; end = on.end }
  step true can go =
      let t' : LockState = after_grant t r.owner r.resource in
      let are' : t'.requests ≡ (done ++ granting r.owner r.resource r ∷ []) ++ rest = ap (map (granting r.owner r.resource)) are ∙ after_requests done r rest apart ∙ sym (append_assoc done (granting r.owner r.resource r ∷ []) rest) in
      let none' = joined (λ q. is_grantable t' resource q ≡ false) done (granting r.owner r.resource r ∷ []) (weaker (λ q. is_grantable t resource q ≡ false) (λ q. is_grantable t' resource q ≡ false) (grantable_stays t r.owner r.resource more resource) done none) (granted_waits_not t' resource r, tt) in
      let on = go (done ++ granting r.owner r.resource r ∷ []) t' are' (wait_granted_lawful t r.owner r.resource (may_grant t resource r can found) l) (all_more_kept t r.owner r.resource more t.requests more) none' in
      let first : next_grant t resource ≡ Some r = ap (find (is_grantable t resource)) are ∙ find_behind (is_grantable t resource) done (r ∷ rest) none ∙ rw can refl in
      record { times = suc on.times; few = omega (arith, on.few); same = rw first on.same; end = on.end }

-- Once nobody can be granted, more grants change nothing.
settled : (m : ℕ) (resource : Resource) (s : LockState) → next_grant s resource ≡ None → granted_times m resource s ≡ s
settled zero resource s end = refl
settled (suc m) resource s end = rw end (settled m resource s end)

enough : (n m : ℕ) (resource : Resource) (s after : LockState) → n ≤ m → granted_times n resource s ≡ after → next_grant after resource ≡ None → granted_times m resource s ≡ after
enough zero m resource s after few same end =
    let Ended : LockState → Type 0 = λ u. next_grant u resource ≡ None in
    settled m resource s (subst Ended (sym same) end) ∙ same
enough (suc n) zero resource s after few same end = absurd (omega arith)
enough (suc n) (suc m) resource s after few same end = enough n m resource (with_grant s (next_grant s resource)) after (omega arith) same end

-- A pass from the start.
all_turns : (s : LockState) (resource : Resource) → IsLawful s → AllWantMore s → Turns resource s (passed resource s) s.requests
all_turns s resource l more = turns resource s.requests [] s refl l (recursion_from_All WantsMore s.requests more) tt

pub turns_same : (s : LockState) (resource : Resource) → IsLawful s → AllWantMore s → granted_times (length s.requests) resource s ≡ passed resource s
turns_same s resource l more =
    let all = all_turns s resource l more in
    enough all.times (length s.requests) resource s (passed resource s) all.few all.same all.end

pub turns_end : (s : LockState) (resource : Resource) → IsLawful s → AllWantMore s → next_grant (passed resource s) resource ≡ None
turns_end s resource l more = (all_turns s resource l more).end
