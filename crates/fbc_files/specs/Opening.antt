-- What the opening of a file says of it: its first bytes and its length show it as one of this store's, or break a rule.
use Rattle.std.specs.Prelude.{◌≡◌, ◌≤◌, ℕ, List, length, take, Option, Some, None}
use Rattle.fbc_kinds.specs.declared.rules.Rule.{Rule}
use Rattle.fbc_kinds.specs.declared.shapes.Shape.{Shape}
use Rattle.fbc_kinds.specs.HeaderSpelling.{ShowsShape, IsFileShape, broken_file}
use Rattle.fbc_files.specs.declared.opening.Opened.{Opened}
use Rattle.fbc_files.specs.declared.faults.OpenFault.{OpenFault}
use Rattle.fbc_files.specs.declared.faults.OpenFault.TheVariants as fault

-- The first rule that a file breaks by its first 1,024 bytes and its length.
abbrev pub broken_opening : List ℕ → Option Rule
broken_opening bytes = broken_file (take 1024 bytes) (length bytes)

-- The file is recognised; where its bytes are not told, nothing is said of it.
abbrev pub IsRecognised : Option (List ℕ) → Type 0
IsRecognised None = Unit {0}
IsRecognised (Some bytes) = broken_opening bytes ≡ None

-- Its first bytes show this shape.
abbrev pub ShowsItsShape : ℕ → Shape → Option (List ℕ) → Type 0
ShowsItsShape reach shape None = Unit {0}
ShowsItsShape reach shape (Some bytes) = ShowsShape (take 1024 bytes) reach shape

-- It has so many bytes.
abbrev pub IsWholeLength : ℕ → Option (List ℕ) → Type 0
IsWholeLength count None = Unit {0}
IsWholeLength count (Some bytes) = count ≡ length bytes

-- The file is refused by this rule.
abbrev pub IsRefused : Rule → Option (List ℕ) → Type 0
IsRefused rule None = Unit {0}
IsRefused rule (Some bytes) = broken_opening bytes ≡ Some rule

-- Why a file was not opened: it is refused, or a call of the device failed.
abbrev pub WhyNotOpened : OpenFault → Option (List ℕ) → Type 0
WhyNotOpened (fault.NotOurs rule) file = IsRefused rule file
WhyNotOpened fault.DeviceFault file = Unit {0}

-- A file that was opened is recognised and shows a shape, and its length lies within the reach.
pub record IsOpened (reach : ℕ) (file : Option (List ℕ)) (opened : Opened) : Type 0 where
  pub recognised : IsRecognised file
  pub shown : ShowsItsShape reach opened.shape file
  pub limits : IsFileShape opened.shape
  pub whole : IsWholeLength opened.length file
  pub within : opened.length ≤ reach
