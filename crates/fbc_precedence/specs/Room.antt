-- The room that the pairs of a graph need.
use Rattle.std.specs.Prelude.{◌≡◌, ◌≢◌, ◌≤◌, ◌*◌, ◌/◌, ℕ, Bool, false, ◌||◌, List, [], ◌∷◌}
use Rattle.std.specs.List.{list_any}
use Rattle.fbc_kinds.specs.declared.edges.Edge.{Edge}
use Rattle.fbc_precedence.specs.Precedence.{is_pair, IsPrecedence}

-- Whether the pair of these pages stands there, either way round.
abbrev pub is_linked : List Edge → ℕ → ℕ → Bool
is_linked pairs high low = list_any (is_pair high low) pairs || list_any (is_pair low high) pairs

-- Each pair has two pages and stands once, and not the other way round.
abbrev pub AreOnce : List Edge → Type 0
AreOnce [] = Unit {0}
AreOnce (pair ∷ pairs) = (pair.high ≢ pair.low) × (is_linked pairs pair.high pair.low ≡ false) × AreOnce pairs

-- What a graph's pairs are, and the room for all that may come.
pub record IsGraph (buffers : ℕ) (pairs : List Edge) (capacity : ℕ) : Type 0 where
  pub order : IsPrecedence (record { buffers = buffers; pairs = pairs })
  pub once : AreOnce pairs
  pub small : buffers ≤ 512
  pub room : buffers * buffers / 2 ≤ capacity
