-- Each change of the requests beside the number of those that wait.
use Rattle.std.proofs.Common.{◌==◌, ◌≡◌, ℕ, ◌+◌, ◌≤◌, Bool, true, false, cond, if◌then◌else◌, List, [], ◌∷◌, ◌++◌, map, Option, Some, None, is_some, refl, arith, ap, ◌∙◌}
use Rattle.std.specs.List.{filter, find}
use Rattle.std.proofs.lemmas.List.Sums.{sum_by-cons, sum_by_push}
use Rattle.fbc_levels.specs.declared.resources.Resource.{Resource}
use Rattle.fbc_levels.specs.declared.resources.Request.{Request}
use Rattle.fbc_levels.specs.LockState.{is_of}
use Rattle.fbc_lock_table.specs.Effects.{entered, granting, new_request, without_wait}
use Rattle.fbc_lock_table.specs.Waiters.{is_waiting, waiting_of}

-- What a request adds to the number.
abbrev pub one : Request → ℕ
one r = cond (is_waiting r) 1 0

-- Of some of the requests no more wait than of all.
pub waiting-filter : (p : Request → Bool) (rs : List Request) → waiting_of (filter p rs) ≤ waiting_of rs
waiting-filter p [] = omega arith
waiting-filter p (r ∷ rs) = step (p r) (waiting-filter p rs) (sum_by-cons one r rs) (sum_by-cons one r (filter p rs)) where
  step : (b : Bool) → waiting_of (filter p rs) ≤ waiting_of rs → waiting_of (r ∷ rs) ≡ one r + waiting_of rs → waiting_of (r ∷ filter p rs) ≡ one r + waiting_of (filter p rs) → waiting_of (cond b (r ∷ filter p rs) (filter p rs)) ≤ waiting_of (r ∷ rs)
  step true rest whole part = omega (arith, rest, whole, part)
  step false rest whole part = omega (arith, rest, whole)

-- A change by which no request comes to wait.
pub waiting-map_fewer : (f : Request → Request) → ((r : Request) → one (f r) ≤ one r) → (rs : List Request) → waiting_of (map f rs) ≤ waiting_of rs
waiting-map_fewer f less [] = omega arith
waiting-map_fewer f less (r ∷ rs) =
    omega (arith, less r, waiting-map_fewer f less rs, sum_by-cons one r rs, sum_by-cons one (f r) (map f rs))

-- A change that leaves what each request waits for.
pub waiting-map_same : (f : Request → Request) → ((r : Request) → is_waiting (f r) ≡ is_waiting r) → (rs : List Request) → waiting_of (map f rs) ≡ waiting_of rs
waiting-map_same f same [] = refl
waiting-map_same f same (r ∷ rs) =
    let here : one (f r) ≡ one r = ap (λ b. cond b 1 0) (same r) in
    omega (arith, here, waiting-map_same f same rs, sum_by-cons one r rs, sum_by-cons one (f r) (map f rs))

-- A request that is entered waits for nothing yet.
pub waiting-entered : (rs : List Request) (owner : ℕ) (resource : Resource) (word : ℕ) → waiting_of (entered rs owner resource word) ≡ waiting_of rs
waiting-entered rs owner resource word = step (find (is_of owner resource) rs) where
  step : (o : Option Request) → waiting_of (if is_some o then rs else rs ++ new_request owner resource word ∷ []) ≡ waiting_of rs
  step None = sum_by_push one rs (new_request owner resource word) ∙ omega arith
  step (Some r) = refl

-- A request that may be granted waits no more, or as before.
pub one-granted : (owner : ℕ) (resource : Resource) (r : Request) → one (granting owner resource r) ≤ one r
one-granted owner resource r = step (is_of owner resource r) where
  step : (b : Bool) → cond (is_some (if b then None else r.waiting)) 1 0 ≤ one r
  step true = omega arith
  step false = omega arith

-- A request that may be cleared waits no more, or as before.
pub one-cleared : (owner : ℕ) (r : Request) → one (without_wait owner r) ≤ one r
one-cleared owner r = step (r.owner == owner) where
  step : (b : Bool) → cond (is_some (if b then None else r.waiting)) 1 0 ≤ one r
  step true = omega arith
  step false = omega arith
