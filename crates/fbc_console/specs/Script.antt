-- How a script is read from its source.
use Rattle.std.specs.Prelude.{◌≡◌, ◌≤◌, ◌<◌, ◌+◌, ◌↔◌, IfSome, ℕ, List, [], ◌++◌, length, Option, Some, None}

-- A text was read from the front of what a source had left.
abbrev pub HasRead : Option (List ℕ) → Option (List ℕ) → List ℕ → Type 0
HasRead None now text = now ≡ None
HasRead (Some left) None text = ⊥
HasRead (Some left) (Some now) text = left ≡ text ++ now

-- A text is all that a source had left.
abbrev pub HasReadAll : Option (List ℕ) → List ℕ → Type 0
HasReadAll None text = Unit {0}
HasReadAll (Some left) text = left ≡ text

-- A source has more left than a script may have.
abbrev pub IsTooLong : Option (List ℕ) → Type 0
IsTooLong None = Unit {0}
IsTooLong (Some left) = 4194304 < length left

-- So many bytes were taken from a source and put behind a text, none only at the end of the source.
pub record TakesNext (left now : Option (List ℕ)) (old new : List ℕ) (n : ℕ) : Type 0 where
  pub grown : length new ≡ length old + n
  pub taken : (before : Option (List ℕ)) → HasRead before left old → HasRead before now new
  pub ends : IfSome left (λ bytes. (n ≡ 0) ↔ (bytes ≡ []))

-- At most so many bytes were taken from a source.
abbrev pub TakesAtMost : ℕ → Option (List ℕ) → Option (List ℕ) → Type 0
TakesAtMost most None now = now ≡ None
TakesAtMost most (Some left) None = ⊥
TakesAtMost most (Some left) (Some now) = length left ≤ most + length now
