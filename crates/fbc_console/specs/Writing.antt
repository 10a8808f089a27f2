-- Which calls may write the device.
use Rattle.std.specs.Prelude.{◌⊎◌, ℕ, List}
use Rattle.std.specs.Global.{Global}
use Rattle.std.specs.declared.string.String.{String}
use Rattle.fbc_files.specs.declared.relations.NewRelation.{NewRelation}
use Rattle.fbc_command_line.specs.declared.commands.Command.TheVariants as command
use Rattle.fbc_command_line.specs.Commands.{SpellsCommand, SpellsPlay}

-- These words spell the making of a new file.
abbrev pub SpellsNewFile : List (String Global) → Type 0
SpellsNewFile words = (size : ℕ) × (relations : List NewRelation) × SpellsCommand words (command.Create size relations)

-- A call with these words may write: it plays a script, or makes a new file.
abbrev pub MayWrite : List (String Global) → Type 0
MayWrite words = SpellsPlay words ⊎ SpellsNewFile words
