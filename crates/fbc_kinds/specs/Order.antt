-- What stands before what, by pairs that lead from the one to the other.
use Rattle.std.specs.Prelude.{ℕ}

-- Pairs of this relation lead from the first page to the second.
pub data StandsBefore (Pairs : ℕ → ℕ → Type 0) : ℕ → ℕ → Type 0 where
  straight : (high low : ℕ) → Pairs high low → StandsBefore Pairs high low
  through : (high between low : ℕ) → Pairs high between → StandsBefore Pairs between low → StandsBefore Pairs high low
