-- What the check of a file finds.
use Rattle.std.specs.Prelude.{◌≡◌, ◌↔◌, ◌*◌, ℕ, List, [], length, take, Option, Some, None}
use Rattle.fbc_kinds.specs.HeaderSpelling.{ShowsShape}
use Rattle.fbc_kinds.specs.Lost.{IsLostSpace}
use Rattle.fbc_kinds.specs.Sound.{IsSound}
use Rattle.fbc_kinds.specs.View.{View}
use Rattle.fbc_kinds.specs.File.{IsSoundFile, IsViewOf}
use Rattle.fbc_kinds.specs.declared.shapes.Shape.{Shape}
use Rattle.fbc_files.specs.Opening.{IsRefused, broken_opening}
use Rattle.fbc_validator.specs.Damage.{AreDamages}
use Rattle.fbc_validator.specs.declared.faults.ValidateFault.{ValidateFault}
use Rattle.fbc_validator.specs.declared.faults.ValidateFault.TheVariants as fault
use Rattle.fbc_validator.specs.declared.findings.Findings.{Findings}

-- What was found is right for a view: its damages, of which there are none exactly where it is sound; and its lost
-- space where there are none, and else no lost space.
pub record AreFindings (shape : Shape) (bytes : List ℕ) (view : View) (found : Findings) : Type 0 where
  pub damages : AreDamages shape bytes view found.damages
  pub sound : (found.damages ≡ []) ↔ IsSound view
  pub lost : found.damages ≡ [] → IsLostSpace view found.lost_pages found.lost_cells
  pub hidden : ¬ (found.damages ≡ []) → (found.lost_pages ≡ []) × (found.lost_cells ≡ [])

-- These bytes are a sound file: they give a view, and it is sound.
abbrev pub AreSoundFile : ℕ → List ℕ → Type 0
AreSoundFile reach bytes = (view : View) × IsSoundFile reach bytes view

-- The file was recognised, its first bytes show a shape, and it has so many pages of that size. What was found is right
-- for each view that its bytes give; and no damage was found exactly where the file is sound.
pub record IsChecked (reach : ℕ) (bytes : List ℕ) (found : Findings) : Type 0 where
  pub shape : Shape
  pub recognised : broken_opening bytes ≡ None
  pub shown : ShowsShape (take 1024 bytes) reach shape
  pub pages : found.pages * shape.size ≡ length bytes
  pub findings : (view : View) → IsViewOf shape bytes view → AreFindings shape bytes view found
  pub sound : (found.damages ≡ []) ↔ AreSoundFile reach bytes

-- The same of a device; where that does not tell its bytes, nothing is said of them.
abbrev pub HasFound : ℕ → Option (List ℕ) → Findings → Type 0
HasFound reach None found = Unit {0}
HasFound reach (Some bytes) found = IsChecked reach bytes found

-- Why a file was not checked: it is refused, a call of the device failed, or there was no memory.
abbrev pub WhyNotChecked : ValidateFault → Option (List ℕ) → Type 0
WhyNotChecked (fault.NotOurs rule) file = IsRefused rule file
WhyNotChecked _ file = Unit {0}
