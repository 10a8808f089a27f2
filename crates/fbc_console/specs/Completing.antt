-- Calls that nothing stands in the way of.
use Rattle.std.specs.Prelude.{◌≡◌, ◌≤◌, ◌⊎◌, ℕ, List, Bool, [], length, Option, Some, None}
use Rattle.std.specs.Global.{Global}
use Rattle.std.specs.declared.string.String.{String}
use Rattle.fbc_outside.specs.Faults.{Rose}
use Rattle.fbc_script.specs.declared.single.SingleTransaction.{SingleTransaction}
use Rattle.fbc_files.specs.Opening.{broken_opening}
use Rattle.fbc_files.specs.declared.relations.NewRelation.{NewRelation}
use Rattle.fbc_console.specs.declared.statuses.Status.{Status}
use Rattle.fbc_console.specs.declared.statuses.Status.TheVariants as status
use Rattle.fbc_command_line.specs.declared.commands.Command.TheVariants as command
use Rattle.fbc_command_line.specs.Commands.{SpellsCommand, SpellsPlay}
use Rattle.fbc_console.specs.Images.{IsFreshFile}
use Rattle.fbc_console.specs.Asking.{SpellsAsked}

-- The words are `play`, the file is the fresh file, and the source has a script within the limit that is empty or one transaction.
pub record IsPlainPlay (words : List (String Global)) (left file : Option (List ℕ)) : Type 0 where
  pub words_are : SpellsPlay words
  pub bytes : List ℕ
  pub file_is : file ≡ Some bytes
  pub fresh : IsFreshFile bytes
  pub text : List ℕ
  pub left_is : left ≡ Some text
  pub within : length text ≤ 4194304
  pub asked : SingleTransaction
  pub spelled : SpellsAsked text asked

-- The words are those of a new file, and nothing stands on the device.
pub record IsPlainCreate (words : List (String Global)) (file : Option (List ℕ)) : Type 0 where
  pub size : ℕ
  pub relations : List NewRelation
  pub words_are : SpellsCommand words (command.Create size relations)
  pub file_is : file ≡ Some []

-- The words are those of a check, and the file is recognised.
pub record IsPlainCheck (words : List (String Global)) (file : Option (List ℕ)) : Type 0 where
  pub json : Bool
  pub words_are : SpellsCommand words (command.Validate json)
  pub bytes : List ℕ
  pub file_is : file ≡ Some bytes
  pub recognised : broken_opening bytes ≡ None

-- Of none of the three objects a count of faults rose.
pub record NothingFailed (device device_now source source_now sink sink_now : ℕ) : Type 0 where
  pub of_device : ¬ Rose device device_now
  pub of_source : ¬ Rose source source_now
  pub of_sink : ¬ Rose sink sink_now

-- A call was carried out, but for want of memory.
abbrev pub IsCompleted : Status → Type 0
IsCompleted ended = (ended ≡ status.Ok) ⊎ (ended ≡ status.OutOfMemory)

-- The same of a check, which says whether there is damage.
abbrev pub IsChecked : Status → Type 0
IsChecked ended = (ended ≡ status.Damaged) ⊎ IsCompleted ended
