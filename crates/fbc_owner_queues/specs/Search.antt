-- The search for a circle: depth first, each owner tried in the given order and entered once at most.
use Rattle.std.specs.Prelude.{◌≡◌, ℕ, zero, suc, Bool, true, false, not, ◌==◌, if◌then◌else◌, List, [], ◌∷◌, ◌++◌, Result, Ok, Err}
use Rattle.std.specs.List.{filter}
use Rattle.fbc_owner_queues.specs.Living.{has}

-- The list without the owner.
abbrev pub leaving : List ℕ → ℕ → List ℕ
leaving owners owner = filter (λ o. not (o == owner)) owners

-- What a search comes to: the owners of a path that leads to the goal, or those that are still free.
abbrev pub Outcome : Type 0
Outcome = Result (List ℕ) (List ℕ)

-- A path that was found from this owner begins with it.
abbrev pub begun : ℕ → Outcome → Outcome
begun owner (Ok path) = Ok (owner ∷ path)
begun owner (Err free) = Err free

-- The owner is entered if it is free.
abbrev pub entered : (ℕ → List ℕ → Outcome) → ℕ → List ℕ → Outcome
entered enter owner free = if has free owner then begun owner (enter owner (leaving free owner)) else Err free

-- Where no path was found, the search goes on with those that are still free.
abbrev pub onward : (List ℕ → Outcome) → Outcome → Outcome
onward go (Ok path) = Ok path
onward go (Err free) = go free

-- Tries one owner: it is passed over where it is not waited for, and the goal ends the path.
abbrev pub stepped : (ℕ → Bool) → ℕ → (ℕ → List ℕ → Outcome) → ℕ → List ℕ → Outcome
stepped waits goal enter next free =
    if waits next then (if next == goal then Ok [] else entered enter next free) else Err free

-- Tries these owners in turn.
abbrev pub tried : (ℕ → Bool) → ℕ → (ℕ → List ℕ → Outcome) → List ℕ → List ℕ → Outcome
tried waits goal enter [] free = Err free
tried waits goal enter (next ∷ others) free =
    onward (tried waits goal enter others) (stepped waits goal enter next free)

-- Searches from this owner on, at most so deep, and tries the owners in the order of the list.
abbrev pub searched : (ℕ → ℕ → Bool) → List ℕ → ℕ → ℕ → ℕ → List ℕ → Outcome
searched waits owners goal zero owner free = Err free
searched waits owners goal (suc depth) owner free =
    tried (waits owner) goal (searched waits owners goal depth) owners free

-- The answer, the path and the free owners that a search leaves.
abbrev pub Leaves : Outcome → Bool → List ℕ → List ℕ → List ℕ → Type 0
Leaves (Ok path) found before after free = (found ≡ true) × (after ≡ before ++ path)
Leaves (Err rest) found before after free = (found ≡ false) × (after ≡ before) × (free ≡ rest)
