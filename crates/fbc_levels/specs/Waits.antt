-- Who waits for whom.
use Rattle.std.specs.Prelude.{◌≡◌, ℕ, Bool, false, not, ◌&&◌, ◌==◌, List, [], ◌∷◌, IsTrue, IsSomeAnd}
use Rattle.std.specs.List.{list_any}
use Rattle.std.specs.Option.{option_map_or}
use Rattle.fbc_levels.specs.declared.resources.Series.TheVariants.{Page}
use Rattle.fbc_levels.specs.declared.resources.Request.{Request}
use Rattle.fbc_levels.specs.Resources.{is_same_series}
use Rattle.fbc_levels.specs.LockState.{LockState, wait_of, stands_in_way}

-- Whether the second request has a granted level that conflicts with what the first waits for, and its owner lives.
abbrev pub is_waited_for : Request → Request → Bool
is_waited_for wait r =
    option_map_or (λ level. stands_in_way wait.owner wait.resource level r) wait.waiting false && r.alive

-- Whether the waiting request waits for this owner.
abbrev pub is_wait_for : LockState → ℕ → Request → Bool
is_wait_for s other wait = list_any (λ r. (r.owner == other) && is_waited_for wait r) s.requests

-- Whether the one owner waits for the other, who lives.
abbrev pub waits_for : LockState → ℕ → ℕ → Bool
waits_for s owner other = option_map_or (is_wait_for s other) (wait_of s owner) false

abbrev pub WaitsFor : LockState → ℕ → ℕ → Type 0
WaitsFor s owner other = IsTrue (waits_for s owner other)

-- Whether the request is for a transaction or a relation.
abbrev pub is_for_number : Request → Bool
is_for_number r = not (is_same_series r.resource.series Page)

-- Whether the one owner waits for the other over a transaction or a relation.
abbrev pub waits_for_number : LockState → ℕ → ℕ → Bool
waits_for_number s owner other =
    option_map_or (λ wait. is_for_number wait && is_wait_for s other wait) (wait_of s owner) false

abbrev pub WaitsForNumber : LockState → ℕ → ℕ → Type 0
WaitsForNumber s owner other = IsTrue (waits_for_number s owner other)

-- R leads from the first through all of the list, in order, to the last.
abbrev pub Leads : (ℕ → ℕ → Type 0) → ℕ → List ℕ → ℕ → Type 0
Leads R first [] last = R first last
Leads R first (next ∷ rest) last = R first next × Leads R next rest last

-- Each waits for the next, and the last for the first.
abbrev pub IsCircle : (ℕ → ℕ → Type 0) → List ℕ → Type 0
IsCircle R [] = ⊥
IsCircle R (owner ∷ rest) = Leads R owner rest owner

-- The one owner waits for a page that the other, who has it in a conflicting level, has pinned.
abbrev pub IsHeldBy : LockState → (ℕ → ℕ → Type 0) → ℕ → ℕ → Type 0
IsHeldBy s IsPinned owner other =
    WaitsFor s owner other × IsSomeAnd (wait_of s owner) (λ wait. (wait.resource.series ≡ Page) × IsPinned other wait.resource.key)
