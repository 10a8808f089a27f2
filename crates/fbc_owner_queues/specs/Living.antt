-- The living owners that have requests, in rising order.
use Rattle.std.specs.Prelude.{ℕ, Bool, ◌==◌, nat_lt, if◌then◌else◌, List, [], length}
use Rattle.std.specs.List.{fold, list_any, insert, take_while}
use Rattle.fbc_levels.specs.declared.resources.Request.{Request}
use Rattle.fbc_levels.specs.LockState.{LockState}

-- Whether the owner is in the list.
abbrev pub has : List ℕ → ℕ → Bool
has owners owner = list_any (λ o. o == owner) owners

-- Rising owners with this one behind those that are less, once.
abbrev pub with_owner : ℕ → List ℕ → List ℕ
with_owner owner owners =
    if has owners owner then owners else insert owners (length (take_while (λ o. nat_lt o owner) owners)) owner

-- Rising owners with the request's owner among them, if it lives.
abbrev pub with_living : List ℕ → Request → List ℕ
with_living owners r = if r.alive then with_owner r.owner owners else owners

-- The living owners that have requests, in rising order.
abbrev pub living_owners : LockState → List ℕ
living_owners s = fold with_living [] s.requests
