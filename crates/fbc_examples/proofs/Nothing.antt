-- What no pair orders, and who an owner is not.
use Rattle.std.proofs.Common.{◌≡◌, ℕ, false}
use Rattle.std.proofs.lemmas.Bool.{both_ways}
use Rattle.fbc_world.specs.World.{World, IsPairIn}
use Rattle.fbc_kinds.specs.Order.{StandsBefore}

-- Where no pair has this low page, nothing stands before it.
pub nothing_before : (w : World) (low : ℕ) → ((owner high : ℕ) → w.has_pair owner high low ≡ false) → (high : ℕ) → StandsBefore (IsPairIn w) high low → ⊥
nothing_before w low none high (StandsBefore.straight _ _ pair) = both_ways (w.has_pair pair.0 high low) (none pair.0 high) pair.1
nothing_before w low none high (StandsBefore.through _ between _ pair rest) = nothing_before w low none between rest

-- Where no pair has this high page, it stands before nothing.
pub before_nothing : (w : World) (high : ℕ) → ((owner low : ℕ) → w.has_pair owner high low ≡ false) → (low : ℕ) → StandsBefore (IsPairIn w) high low → ⊥
before_nothing w high none low (StandsBefore.straight _ _ pair) = both_ways (w.has_pair pair.0 high low) (none pair.0 low) pair.1
before_nothing w high none low (StandsBefore.through _ between _ pair rest) = both_ways (w.has_pair pair.0 high between) (none pair.0 between) pair.1
