-- A device of whole pages.
use Rattle.std.specs.Prelude.{◌≡◌, ℕ, ◌*◌, List, length, Option, Some, None}

-- The bytes are those of whole pages, as far as they are told.
abbrev pub AreWholePages : ℕ → Option (List ℕ) → Type 0
AreWholePages size None = Unit {0}
AreWholePages size (Some bytes) = (pages : ℕ) × (length bytes ≡ pages * size)
