-- A set that is closed under single pairs is closed under ways of pairs.
use Rattle.std.proofs.Common.{◌≡◌, ℕ, Bool, true}
use Rattle.fbc_kinds.specs.Order.{StandsBefore, straight, through}

pub closed_way : (Pairs : ℕ → ℕ → Type 0) (cut : ℕ → Bool) → ((high low : ℕ) → Pairs high low → cut low ≡ true → cut high ≡ true)
    → (high low : ℕ) → StandsBefore Pairs high low → cut low ≡ true → cut high ≡ true
closed_way Pairs cut step _ _ (straight high low pair) is = step high low pair is
closed_way Pairs cut step _ _ (through high between low pair way) is = step high between pair (closed_way Pairs cut step between low way is)
