-- What a check that was carried out says of the file on the device.
use Rattle.std.specs.Prelude.{ℕ, Bool, List, Option, Some, None}
use Rattle.std.specs.Global.{Global}
use Rattle.std.specs.declared.string.String.{String}
use Rattle.fbc_command_line.specs.declared.commands.Command.TheVariants as command
use Rattle.fbc_command_line.specs.Commands.{SpellsCommand}
use Rattle.fbc_validator.specs.Checked.{AreSoundFile}

-- The words are those of a check, with its report as text or as JSON.
abbrev pub SpellsCheck : List (String Global) → Type 0
SpellsCheck words = (json : Bool) × SpellsCommand words (command.Validate json)

-- The bytes of the device are a sound file; where they are not told, nothing is said of them.
abbrev pub IsSoundDevice : ℕ → Option (List ℕ) → Type 0
IsSoundDevice reach None = Unit {0}
IsSoundDevice reach (Some bytes) = AreSoundFile reach bytes

-- The bytes of the device are no sound file.
abbrev pub IsUnsoundDevice : ℕ → Option (List ℕ) → Type 0
IsUnsoundDevice reach None = Unit {0}
IsUnsoundDevice reach (Some bytes) = ¬ AreSoundFile reach bytes
