-- Bytes of a device or a source that may tell them or not.
use Rattle.std.specs.Prelude.{◌≡◌, ℕ, List, [], Option, Some, None}

-- There are none; where they are not told, nothing is said.
abbrev pub IsEmpty : Option (List ℕ) → Type 0
IsEmpty None = Unit {0}
IsEmpty (Some bytes) = bytes ≡ []
