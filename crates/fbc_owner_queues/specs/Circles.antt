-- The circle that is named: the first that the search finds, with its least owner first.
use Rattle.std.specs.Prelude.{ℕ, nat_lt, if◌then◌else◌, min, List, ◌∷◌, ◌++◌, length, take, drop, Option, Some, None, Result, Ok, Err}
use Rattle.std.specs.List.{fold, take_while}
use Rattle.fbc_levels.specs.LockState.{LockState}
use Rattle.fbc_levels.specs.Waits.{waits_for_number}
use Rattle.fbc_owner_queues.specs.Living.{has, living_owners}
use Rattle.fbc_owner_queues.specs.Search.{leaving, searched}

-- The least of these.
abbrev pub least_of : ℕ → List ℕ → ℕ
least_of owner others = fold min owner others

-- How many stand before the least.
abbrev pub before_least : ℕ → List ℕ → ℕ
before_least owner others = length (take_while (nat_lt (least_of owner others)) (owner ∷ others))

-- The circle with its least owner first.
abbrev pub least_first : ℕ → List ℕ → List ℕ
least_first owner others =
    drop (before_least owner others) (owner ∷ others) ++ take (before_least owner others) (owner ∷ others)

-- The circle of the path that was found.
abbrev pub circle_of : ℕ → Result (List ℕ) (List ℕ) → Option (List ℕ)
circle_of owner (Ok path) = Some (least_first owner path)
circle_of owner (Err free) = None

-- The circle that the search from this owner, which lives, finds when all others are free.
abbrev pub circle_from : LockState → ℕ → Option (List ℕ)
circle_from s owner =
    if has (living_owners s) owner
    then circle_of owner (searched (waits_for_number s) (living_owners s) owner (length (living_owners s)) owner (leaving (living_owners s) owner))
    else None
