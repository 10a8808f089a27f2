-- The order of ranks.
use Rattle.std.proofs.Common.{◌≡◌, ◌<◌, ◌≤◌, ◌⊎◌, arith}
use Rattle.fbc_legal.specs.Ranks.{IsLower, Rank}

-- One rank is lower than the other, or the same.
abbrev pub IsAtMost : Rank → Rank → Type 0
IsAtMost a b = (a.kind < b.kind) ⊎ ((a.kind ≡ b.kind) × (a.place ≤ b.place))

pub at_most-self : (a : Rank) → IsAtMost a a
at_most-self a = grind (arith)

pub at_most-same : (a b : Rank) → a ≡ b → IsAtMost a b
at_most-same a b same = rw same (at_most-self b)

pub at_most-trans : (a b c : Rank) → IsAtMost a b → IsAtMost b c → IsAtMost a c
at_most-trans a b c below above = grind (arith, below, above)

pub at_most-lower : (a b c : Rank) → IsAtMost a b → IsLower b c → IsLower a c
at_most-lower a b c below above = grind (arith, below, above)

pub lower-at_most : (a b c : Rank) → IsLower a b → IsAtMost b c → IsLower a c
lower-at_most a b c below above = grind (arith, below, above)

pub lower-trans : (a b c : Rank) → IsLower a b → IsLower b c → IsLower a c
lower-trans a b c below above = grind (arith, below, above)

pub lower-self : (a : Rank) → IsLower a a → ⊥
lower-self a below = grind (arith, below)
