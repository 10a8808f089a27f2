-- Counters that stop at 2^64 - 1, and what a failed call owes to the count of faults.
use Rattle.std.specs.Prelude.{ℕ, ◌+◌, ◌-◌, ◌^◌, ◌≤◌, min, max, Bool, if◌then◌else◌, Result, OnErr}

-- A count after one more, which stays where it is from 2^64 - 1 on.
abbrev pub bump : ℕ → ℕ
bump n = max n (min (n + 1) (2 ^ 64 - 1))

-- A count after a call that it counts, or does not.
abbrev pub count_after : Bool → ℕ → ℕ
count_after counts n = if counts then bump n else n

-- A count has gone up by at least one, or has reached its end.
abbrev pub Rose : ℕ → ℕ → Type 0
Rose before now = bump before ≤ now

-- A call's count of faults does not fall, and the call fails only where the count rose.
pub record HasCause {T E : Type 0} (before now : ℕ) (result : Result T E) : Type 0 where
  pub later : before ≤ now
  pub failed : OnErr result (Rose before now)
