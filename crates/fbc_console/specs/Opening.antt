-- What the opening of a file says of it: why it was not opened, and whether it is the fresh file.
use Rattle.std.specs.Prelude.{ℕ, Bool, true, false, List, Option, Some, None}
use Rattle.fbc_files.specs.Opening.{IsRefused}
use Rattle.fbc_console.specs.declared.statuses.Status.{Status}
use Rattle.fbc_console.specs.declared.statuses.Status.TheVariants as status
use Rattle.fbc_console.specs.Images.{IsFreshFile}

-- Why a file was not opened: it is refused, or a call of the device failed.
abbrev pub WhyNotOpened : Status → Option (List ℕ) → Type 0
WhyNotOpened (status.NotOurs rule) file = IsRefused rule file
WhyNotOpened status.DeviceFault file = Unit {0}
WhyNotOpened _ file = ⊥

-- The file is the fresh file; where its bytes are not told, nothing is said of it.
abbrev pub IsFreshDevice : Option (List ℕ) → Type 0
IsFreshDevice None = Unit {0}
IsFreshDevice (Some bytes) = IsFreshFile bytes

-- The file is another than the fresh file.
abbrev pub IsOtherDevice : Option (List ℕ) → Type 0
IsOtherDevice None = Unit {0}
IsOtherDevice (Some bytes) = IsFreshFile bytes → ⊥

-- Whether the file is the fresh file.
abbrev pub TellsFresh : Bool → Option (List ℕ) → Type 0
TellsFresh true file = IsFreshDevice file
TellsFresh false file = IsOtherDevice file
