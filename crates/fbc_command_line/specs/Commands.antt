-- The words of a command line, and the command that they spell.
use Rattle.std.specs.Prelude.{◌≡◌, ℕ, Bool, List, [], ◌∷◌, Option, Some, None, codes, string_bytes}
use Rattle.std.specs.Global.{Global}
use Rattle.std.specs.declared.string.String.{String}
use Rattle.fbc_files.specs.declared.relations.NewRelation.{NewRelation}
use Rattle.fbc_command_line.specs.declared.commands.Command.{Command}
use Rattle.fbc_command_line.specs.declared.commands.Command.TheVariants as command
use Rattle.fbc_command_line.specs.declared.commands.TheConstants.{JSON}
use Rattle.fbc_command_line.specs.declared.options.Given.{Given}
use Rattle.fbc_command_line.specs.declared.options.OptionRule.{OptionRule}
use Rattle.fbc_command_line.specs.declared.options.Takes.TheVariants.{Nothing}
use Rattle.fbc_command_line.specs.NewFile.{SpellsCreate, SpellsFile}
use Rattle.fbc_command_line.specs.Options.{GiveOptions, is_given}

-- The options of `validate`: the switch `--json`.
abbrev pub validate_options : List OptionRule
validate_options = record { name = codes "json"; takes = Nothing } ∷ []

-- The words behind `validate` are options of it, and `--json` is among them or not.
pub record SpellsValidate (words : List (String Global)) (json : Bool) : Type 0 where
  pub given : List Given
  pub options : GiveOptions validate_options words given
  pub json_is : json ≡ is_given given JSON

-- The word that names a command.
abbrev pub name_of : Command → List ℕ
name_of (command.Create size relations) = codes "create"
name_of command.Play = codes "play"
name_of (command.Validate json) = codes "validate"

-- The words behind its name spell this command; behind `play` stands none.
abbrev pub SpellsBehind : Command → List (String Global) → Type 0
SpellsBehind (command.Create size relations) words = SpellsCreate words size relations
SpellsBehind command.Play words = words ≡ []
SpellsBehind (command.Validate json) words = SpellsValidate words json

-- These words spell this command: its name, and what may stand behind it.
pub record SpellsCommand (words : List (String Global)) (command : Command) : Type 0 where
  pub name : String Global
  pub behind : List (String Global)
  pub words_are : words ≡ name ∷ behind
  pub name_is : string_bytes name ≡ name_of command
  pub spelled : SpellsBehind command behind

-- These words spell the play of a script.
abbrev pub SpellsPlay : List (String Global) → Type 0
SpellsPlay words = SpellsCommand words command.Play

-- The words are a command.
abbrev pub IsCommandLine : List (String Global) → Type 0
IsCommandLine words = (command : Command) × SpellsCommand words command

-- What was found is what the words spell; nothing is found exactly where they spell no command.
abbrev pub TellsCommand : List (String Global) → Option Command → Type 0
TellsCommand words None = IsCommandLine words → ⊥
TellsCommand words (Some command) = SpellsCommand words command

-- The words behind a name spell a command of this name.
pub record SpellsNamed (name : List ℕ) (words : List (String Global)) (command : Command) : Type 0 where
  pub name_is : name_of command ≡ name
  pub spelled : SpellsBehind command words

-- What was found is the command of this name that the words behind it spell; nothing is found exactly where they spell none.
abbrev pub TellsBehind : List ℕ → List (String Global) → Option Command → Type 0
TellsBehind name words None = (command : Command) → SpellsNamed name words command → ⊥
TellsBehind name words (Some command) = SpellsNamed name words command

-- What was found is the new file that a word and those behind it spell; nothing is found exactly where they spell none.
abbrev pub TellsFile : List ℕ → List (String Global) → Option Command → Type 0
TellsFile size_word words None = (size : ℕ) (relations : List NewRelation) → SpellsFile size_word words size relations → ⊥
TellsFile size_word words (Some (command.Create size relations)) = SpellsFile size_word words size relations
TellsFile size_word words (Some _) = ⊥
