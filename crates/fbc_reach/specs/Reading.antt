-- What a read of a page's place gives.
use Rattle.std.specs.Prelude.{◌≡◌, ℕ, List, Option, Some, None}
use Rattle.fbc_kinds.specs.File.{page_bytes}

-- The bytes that stand in a page's place, where the device tells its bytes.
abbrev pub AreBytesOf : Option (List ℕ) → ℕ → ℕ → List ℕ → Type 0
AreBytesOf None size number bytes = Unit {0}
AreBytesOf (Some file) size number bytes = bytes ≡ page_bytes size file number
