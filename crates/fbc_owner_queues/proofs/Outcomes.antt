-- What the answer of a search says about its outcome.
use Rattle.std.proofs.Common.{◌≡◌, ℕ, zero, suc, ◌-◌, ◌<◌, ◌≤◌, Bool, true, false, List, [], ◌∷◌, drop, length, get_or, Ok, Err, refl, sym, ap, arith}
use Rattle.std.proofs.Math.Seq.{drop-cons}
use Rattle.std.proofs.lemmas.List.{drop_all}
use Rattle.fbc_owner_queues.specs.Search.{Outcome, onward, stepped, tried, searched, Leaves}

-- A search that may go on tries the owners.
pub searched_at : (waits : ℕ → ℕ → Bool) (owners : List ℕ) (goal depth owner : ℕ) (free : List ℕ) → 0 < depth → searched waits owners goal depth owner free ≡ tried (waits owner) goal (searched waits owners goal (depth - 1)) owners free
searched_at waits owners goal zero owner free some = absurd (omega arith)
searched_at waits owners goal (suc depth) owner free some =
    let less : suc depth - 1 ≡ depth = omega arith in
    rw less refl

-- A path that was found ends the search.
found_on : (o : Outcome) (go : List ℕ → Outcome) (before after free : List ℕ) → Leaves o true before after free → Leaves (onward go o) true before after free
found_on (Ok path) go before after free leaves = leaves
found_on (Err rest) go before after free leaves = absurd (let is : true ≡ false = leaves.0 in cc)

pub found : (waits : ℕ → Bool) (goal : ℕ) (enter : ℕ → List ℕ → Outcome) (owners : List ℕ) (i : ℕ) (free first before path after out : List ℕ) → i < length owners → tried waits goal enter (drop i owners) free ≡ tried waits goal enter owners first → path ≡ before → Leaves (stepped waits goal enter (get_or owners i 0) free) true path after out → Leaves (tried waits goal enter owners first) true before after out
found waits goal enter owners i free first before path after out within so_far same leaves =
    let next : drop i owners ≡ get_or owners i 0 ∷ drop (suc i) owners = drop-cons owners i 0 within in
    rw (← so_far, next, ← same) (found_on (stepped waits goal enter (get_or owners i 0) free) (tried waits goal enter (drop (suc i) owners)) path after out leaves)

-- Where all were tried in vain, these are free.
pub ended : (waits : ℕ → Bool) (goal : ℕ) (enter : ℕ → List ℕ → Outcome) (owners : List ℕ) (i : ℕ) (free first before path : List ℕ) → length owners ≤ i → tried waits goal enter (drop i owners) free ≡ tried waits goal enter owners first → path ≡ before → Leaves (tried waits goal enter owners first) false before path free
ended waits goal enter owners i free first before path all so_far same =
    let none : drop i owners ≡ [] = drop_all i owners all in
    rw (← so_far, none) (refl, same, refl)

-- The path or the free owners by the answer.
pub path_of : (o : Outcome) (path free : List ℕ) → Leaves o true [] path free → o ≡ Ok path
path_of (Ok p) path free leaves = ap (λ (q : List ℕ). Ok q) (sym leaves.1)
path_of (Err rest) path free leaves = absurd (let is : true ≡ false = leaves.0 in cc)

pub free_of : (o : Outcome) (before path free : List ℕ) → Leaves o false before path free → o ≡ Err free
free_of (Ok p) before path free leaves = absurd (let is : false ≡ true = leaves.0 in cc)
free_of (Err rest) before path free leaves = ap (λ (q : List ℕ). Err q) (sym leaves.2)
