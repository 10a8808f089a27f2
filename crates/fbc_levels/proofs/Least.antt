-- The request of the least owner, of some.
use Rattle.std.proofs.Common.{◌≡◌, ℕ, ◌≤◌, Bool, true, false, cond, if◌then◌else◌, List, [], ◌∷◌, get_or, Option, Some, None, IfSome, MatchOption, nat_lt, refl, arith}
use Rattle.std.specs.List.{All, AllByRecursion, Contains, filter, reduce, fold}
use Rattle.std.proofs.lemmas.Bool.Decides.{nat_tests}
use Rattle.std.proofs.lemmas.List.{get_or_default}
use Rattle.std.proofs.lemmas.List.Elements.{All-nil, All-cons, All-head, All-tail, All-filter, All-from_recursion, filter_passes}
use Rattle.fbc_levels.specs.declared.levels.Level.{Level}
use Rattle.fbc_levels.specs.declared.resources.Resource.{Resource}
use Rattle.fbc_levels.specs.declared.resources.Request.{Request}
use Rattle.fbc_levels.specs.LockState.{LockState, lesser, holder_of, stands_in_way, IsHolder}

-- What holds of each holds of the one that a choice of one of two leaves.
fold-chosen : (P : Request → Type 0) (rs : List Request) (r : Request) → P r → All P rs → P (fold lesser r rs)
fold-chosen P [] r here all = here
fold-chosen P (t ∷ rs) r here all =
    fold-chosen P rs (lesser r t) (step (nat_lt t.owner r.owner)) (All-tail P t rs all) where
      step : (b : Bool) → P (if b then t else r)
      step true = All-head P t rs all
      step false = here

pub reduce-chosen : (P : Request → Type 0) (rs : List Request) → All P rs → IfSome (reduce lesser rs) P
reduce-chosen P [] all = tt
reduce-chosen P (r ∷ rs) all = fold-chosen P rs r (All-head P r rs all) (All-tail P r rs all)

-- Its owner is not past any other's.
fold-first : (rs : List Request) (r : Request) → (fold lesser r rs).owner ≤ r.owner
fold-first [] r = omega arith
fold-first (t ∷ rs) r = omega (arith, fold-first rs (lesser r t), step (nat_lt t.owner r.owner) refl) where
  step : (b : Bool) → nat_lt t.owner r.owner ≡ b → (if b then t else r).owner ≤ r.owner
  step true less = grind (arith, nat_tests)
  step false less = omega arith

fold-least : (rs : List Request) (r : Request) → AllByRecursion (λ t. (fold lesser r rs).owner ≤ t.owner) rs
fold-least [] r = tt
fold-least (t ∷ rs) r = (omega (arith, fold-first rs (lesser r t), step (nat_lt t.owner r.owner) refl), fold-least rs (lesser r t)) where
  step : (b : Bool) → nat_lt t.owner r.owner ≡ b → (if b then t else r).owner ≤ t.owner
  step true less = omega arith
  step false less = grind (arith, nat_tests)

-- Of those that pass.
from_filter : (P : Request → Type 0) (p : Request → Bool) (rs : List Request) → AllByRecursion P (filter p rs) → AllByRecursion (λ r. p r ≡ true → P r) rs
from_filter P p [] all = tt
from_filter P p (r ∷ rs) all = step (p r) refl (from_filter P p rs) all where
  step : (b : Bool) → p r ≡ b → (AllByRecursion P (filter p rs) → AllByRecursion (λ t. p t ≡ true → P t) rs) → AllByRecursion P (cond b (r ∷ filter p rs) (filter p rs)) → AllByRecursion (λ t. p t ≡ true → P t) (r ∷ rs)
  step true is rest all' = ((λ _. all'.0), rest all'.1)
  step false is rest all' = ((λ passes. absurd (cc)), rest all')

among : (rs : List Request) → All (Contains rs) rs
among rs k d within = (k, within, get_or_default rs k (get_or rs k d) d within)

-- None passes where there is no least.
none_passes : (p : Request → Bool) (rs : List Request) → reduce lesser (filter p rs) ≡ None → All (λ r. p r ≡ false) rs
none_passes p [] none = All-nil (λ r. p r ≡ false)
none_passes p (r ∷ rs) none = step (p r) refl (none_passes p rs) none where
  step : (b : Bool) → p r ≡ b → (reduce lesser (filter p rs) ≡ None → All (λ t. p t ≡ false) rs) → reduce lesser (cond b (r ∷ filter p rs) (filter p rs)) ≡ None → All (λ t. p t ≡ false) (r ∷ rs)
  step true is rest some = absurd (cc)
  step false is rest none' = All-cons (λ t. p t ≡ false) r rs is (rest none')

-- What is least of those that pass is not past any that passes.
least_passes : (p : Request → Bool) (rs passed : List Request) (h : Request) → filter p rs ≡ passed → reduce lesser passed ≡ Some h → All (λ r. p r ≡ true → h.owner ≤ r.owner) rs
least_passes p rs [] h are is = absurd (cc)
least_passes p rs (r ∷ passed) h are is =
    let same : fold lesser r passed ≡ h = cc in
    let Below : Request → Type 0 = λ t. h.owner ≤ t.owner in
    let first : h.owner ≤ r.owner = rw (← same) (fold-first passed r) in
    let rest : AllByRecursion Below passed = rw (← same) (fold-least passed r) in
    let all : AllByRecursion Below (filter p rs) = rw are (first, rest) in
    All-from_recursion (λ t. p t ≡ true → h.owner ≤ t.owner) rs (from_filter Below p rs all)

-- The holder is in the way, and the least that is; without one nobody is in the way.
pub holder_least : (s : LockState) (owner : ℕ) (resource : Resource) (level : Level) → MatchOption (holder_of s owner resource level) (All (λ r. stands_in_way owner resource level r ≡ false) s.requests) (IsHolder s owner resource level)
holder_least s owner resource level =
    step (holder_of s owner resource level) refl
    (reduce-chosen (λ r. Contains s.requests r) (filter (stands_in_way owner resource level) s.requests) (All-filter (stands_in_way owner resource level) (Contains s.requests) s.requests (among s.requests)))
    (reduce-chosen (λ r. stands_in_way owner resource level r ≡ true) (filter (stands_in_way owner resource level) s.requests) (filter_passes (stands_in_way owner resource level) s.requests)) where
      step : (o : Option Request) → reduce lesser (filter (stands_in_way owner resource level) s.requests) ≡ o → IfSome o (Contains s.requests) → IfSome o (λ r. stands_in_way owner resource level r ≡ true) → MatchOption o (All (λ r. stands_in_way owner resource level r ≡ false) s.requests) (IsHolder s owner resource level)
      step None is there in_way = none_passes (stands_in_way owner resource level) s.requests is
      step (Some h) is there in_way = record {
        among = there;
        in_way = in_way;
        least = least_passes (stands_in_way owner resource level) s.requests (filter (stands_in_way owner resource level) s.requests) h refl is;
      }
