-- What a call of a file that may do a part of what it is asked for says of its bytes: `None` stands for bytes that are not told.
use Rattle.std.specs.Prelude.{◌≡◌, ℕ, ◌-◌, ◌≤◌, ◌⊎◌, List, length, take, drop, Option, Some, None}

-- A read at a place puts some of the bytes that stand from there on first into the buffer: none only where there are none, or there is no room.
pub record ReadsPartOf (bytes : List ℕ) (at n : ℕ) (into : List ℕ) : Type 0 where
  pub fits : n ≤ length into
  pub stand : n ≤ length bytes - at
  pub ends : n ≡ 0 → (length into ≡ 0) ⊎ (length bytes ≤ at)
  pub first : take n into ≡ take n (drop at bytes)

-- The same of bytes that may not be told.
abbrev pub ReadsPart : Option (List ℕ) → ℕ → ℕ → List ℕ → Type 0
ReadsPart None at n into = n ≤ length into
ReadsPart (Some bytes) at n into = ReadsPartOf bytes at n into
