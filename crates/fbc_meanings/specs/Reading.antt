-- What an edit leaves of the machine that the meaning of a view reads as.
use Rattle.std.specs.Prelude.{◌≡◌, ℕ, List}
use Rattle.fbc_kinds.specs.declared.commands.Command.TheVariants as command
use Rattle.fbc_kinds.specs.declared.pages.Cell.{Cell}
use Rattle.fbc_kinds.specs.declared.pages.Flag.TheVariants as flag
use Rattle.fbc_kinds.specs.declared.replies.Reply.TheVariants as reply
use Rattle.fbc_kinds.specs.declared.snapshots.Transaction.{Transaction}
use Rattle.fbc_kinds.specs.Machine.{Machine}
use Rattle.fbc_kinds.specs.Meaning.{meaning_with}
use Rattle.fbc_kinds.specs.View.{View}
use Rattle.fbc_runs.specs.Reading.{ReadsAs}
use Rattle.fbc_meanings.specs.Beside.{IsCarriedOut}

-- The meaning of the later view reads as the machine as that of the earlier one did.
abbrev pub StillReadsAs : List Transaction → View → View → Machine → Type 0
StillReadsAs living view after m = ReadsAs (meaning_with living view) m → ReadsAs (meaning_with living after) m

-- The owner's update of the row, or its deletion, as the new version is one, may come to the machine and is done, and
-- afterwards the other machine reads as it.
pub record IsChangeCarriedOut (m : Machine) (who relation row : ℕ) (new : Cell) (later : Machine) : Type 0 where
  pub update : new.flag ≡ flag.Primary → IsCarriedOut m (command.Update who relation row new.value) reply.Ok later
  pub delete : new.flag ≡ flag.Deletion → IsCarriedOut m (command.Delete who relation row) reply.Ok later
