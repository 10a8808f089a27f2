-- Which pages are to be written before which.
use Rattle.std.specs.Prelude.{◌≡◌, ◌⊎◌, ◌≤◌, ℕ, Bool, true, not, ◌&&◌, ◌==◌, List, [], ◌∷◌, ◌++◌, length}
use Rattle.std.specs.List.{filter, list_any}
use Rattle.fbc_kinds.specs.declared.edges.Edge.{Edge}
use Rattle.fbc_precedence.specs.declared.related.Related.{Related}
use Rattle.fbc_precedence.specs.declared.related.Related.TheVariants.{Recorded}
use Rattle.fbc_precedence.specs.Pages.{pages_of}
use Rattle.fbc_kinds.specs.Order.{StandsBefore}

-- The pairs that are recorded, the oldest first, and how many pages may stand in them.
pub record Precedence : Type 0 where
  pub buffers : ℕ
  pub pairs : List Edge

-- The pair of these pages.
abbrev pub pair_of : ℕ → ℕ → Edge
pair_of high low = record { high = high; low = low }

-- Whether it is the pair of these pages.
abbrev pub is_pair : ℕ → ℕ → Edge → Bool
is_pair high low pair = (pair.high == high) && (pair.low == low)

-- The pair of these pages is recorded.
abbrev pub IsPair : List Edge → ℕ → ℕ → Type 0
IsPair pairs high low = list_any (is_pair high low) pairs ≡ true

-- These pairs lead from the first page to the second.
abbrev pub ComesBefore : List Edge → ℕ → ℕ → Type 0
ComesBefore pairs = StandsBefore (IsPair pairs)

-- Neither page stands before the other.
abbrev pub AreUnrelated : List Edge → ℕ → ℕ → Type 0
AreUnrelated pairs high low = (ComesBefore pairs high low → ⊥) × (ComesBefore pairs low high → ⊥)

-- No more pages than there are buffers stand in the pairs with these two.
abbrev pub HasRoom : Precedence → ℕ → ℕ → Type 0
HasRoom order high low = length (pages_of (order.pairs ++ pair_of high low ∷ [])) ≤ order.buffers

-- No page stands before itself, and no more pages stand in the pairs than there are buffers.
pub record IsPrecedence (order : Precedence) : Type 0 where
  pub acyclic : (page : ℕ) → ComesBefore order.pairs page page → ⊥
  pub few : length (pages_of order.pairs) ≤ order.buffers

-- What stands after the answer to a pair.
abbrev pub after_relate : Precedence → ℕ → ℕ → Related → Precedence
after_relate order high low Recorded = record order { pairs = order.pairs ++ pair_of high low ∷ [] }
after_relate order high low _ = order

-- Whether the page does not stand in the pair.
abbrev pub is_without : ℕ → Edge → Bool
is_without page pair = not (pair.high == page) && not (pair.low == page)

-- The pairs in which the page does not stand.
abbrev pub cleared : Precedence → ℕ → Precedence
cleared order page = record order { pairs = filter (is_without page) order.pairs }

-- Some page stands before this one.
abbrev pub IsBlocked : List Edge → ℕ → Type 0
IsBlocked pairs page = (other : ℕ) × ComesBefore pairs other page

-- It is the page, or stands before it.
abbrev pub IsAtOrBefore : List Edge → ℕ → ℕ → Type 0
IsAtOrBefore pairs other page = (other ≡ page) ⊎ ComesBefore pairs other page

-- The page that is written next for this one: the least that no page stands before, among it and those before it.
pub record IsNextToWrite (pairs : List Edge) (page next : ℕ) : Type 0 where
  pub among : IsAtOrBefore pairs next page
  pub free : IsBlocked pairs next → ⊥
  pub least : (other : ℕ) → IsAtOrBefore pairs other page → (IsBlocked pairs other → ⊥) → next ≤ other
