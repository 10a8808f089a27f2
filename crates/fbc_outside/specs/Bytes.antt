-- What the calls of a device say of its bytes: `None` stands for bytes that are not told.
use Rattle.std.specs.Prelude.{◌≡◌, ℕ, ◌+◌, ◌-◌, ◌≤◌, min, List, ◌++◌, length, take, drop, replicate, Option, Some, None}

-- The answer to a question for the length: the number of the bytes, or where they are not told at most the reach.
abbrev pub IsLength : Option (List ℕ) → ℕ → ℕ → Type 0
IsLength None reach n = n ≤ reach
IsLength (Some bytes) reach n = n ≡ length bytes

-- A read at a place puts as many of the bytes that stand from there on as the buffer has room for first into it.
abbrev pub ReadsFrom : Option (List ℕ) → ℕ → ℕ → List ℕ → Type 0
ReadsFrom None at n into = n ≤ length into
ReadsFrom (Some bytes) at n into = (n ≡ min (length into) (length bytes - at)) × (take n into ≡ take n (drop at bytes))

-- The bytes with others put over them at a place, a gap before that place filled with zeros.
abbrev pub written : ℕ → List ℕ → List ℕ → List ℕ
written at from bytes = take at bytes ++ replicate (at - length bytes) 0 ++ from ++ drop (at + length from) bytes

-- The bytes after a write that took effect.
abbrev pub IsWritten : Option (List ℕ) → Option (List ℕ) → ℕ → List ℕ → Type 0
IsWritten None now at from = now ≡ None
IsWritten (Some bytes) now at from = now ≡ Some (written at from bytes)
