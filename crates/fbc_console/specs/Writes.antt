-- Page writes, and the bytes of a device after them.
use Rattle.std.specs.Prelude.{◌≡◌, ◌≤◌, ◌*◌, ◌⊎◌, ℕ, List, [], ◌∷◌, length, take, reverse, Option, Some, None}
use Rattle.fbc_outside.specs.Bytes.{written}
use Rattle.fbc_console.specs.declared.writes.PageImage.{PageImage}

-- A page was put in its place.
abbrev pub IsPut : Option (List ℕ) → Option (List ℕ) → PageImage → Type 0
IsPut None now image = now ≡ None
IsPut (Some bytes) now image = now ≡ Some (written (image.page * 1024) image.bytes bytes)

-- A page was put in its place, or nothing was changed.
abbrev pub IsPutOrNot : Option (List ℕ) → Option (List ℕ) → PageImage → Type 0
IsPutOrNot None now image = now ≡ None
IsPutOrNot (Some bytes) now image = (now ≡ Some bytes) ⊎ (now ≡ Some (written (image.page * 1024) image.bytes bytes))

-- The bytes after writes of whole pages; the writes stand newest first.
abbrev pub bytes_after : List PageImage → List ℕ → List ℕ
bytes_after [] bytes = bytes
bytes_after (image ∷ earlier) bytes = written (image.page * 1024) image.bytes (bytes_after earlier bytes)

-- A device's bytes after these writes, from the first to the last; where they are not told, nothing is said of them.
abbrev pub IsAfter : Option (List ℕ) → Option (List ℕ) → List PageImage → Type 0
IsAfter None now images = now ≡ None
IsAfter (Some bytes) now images = now ≡ Some (bytes_after (reverse images) bytes)

-- A device's bytes after the first of these writes, however many they are.
pub record IsAfterSome (before now : Option (List ℕ)) (images : List PageImage) : Type 0 where
  pub count : ℕ
  pub within : count ≤ length images
  pub after : IsAfter before now (take count images)
