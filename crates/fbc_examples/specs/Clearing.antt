-- Histories in which versions that nobody needs go, over a file that has some.
use Rattle.std.specs.Prelude.{true, false}
use Rattle.fbc_kinds.specs.declared.edits.Edit.TheVariants.{ClearCell, Mark, PutCell}
use Rattle.fbc_kinds.specs.declared.pages.State.TheVariants.{Dead}
use Rattle.fbc_levels.specs.declared.levels.Level.TheVariants.{Sr}
use Rattle.fbc_world.specs.declared.asks.Cause.TheVariants as cause
use Rattle.fbc_world.specs.declared.events.Act.TheVariants.{Ask, Grant, Write}
use Rattle.fbc_world.specs.History.{History}
use Rattle.fbc_legal.specs.Scene.{number_resource}
use Rattle.fbc_examples.specs.Files.{old_value, value}
use Rattle.fbc_examples.specs.Steps.{does, edits, holds, with_owner}

-- Owner 1 has the data page and the transaction inventory.
abbrev pub with_both : History
with_both = holds 2 (holds 4 with_owner)

-- It cuts the oldest version of the row off from the one over it.
abbrev pub with_old_cut : History
with_old_cut = edits 4 (PutCell 1 (old_value 2 66)) with_both

-- It clears the cell of that version.
abbrev pub with_cleared_oldest : History
with_cleared_oldest = edits 4 (ClearCell 2) with_old_cut

-- It cuts the other older version off from the newest one.
abbrev pub with_cut : History
with_cut = edits 4 (PutCell 0 (value 3 67)) with_cleared_oldest

-- It clears the cell of that one too.
abbrev pub with_cleared_back : History
with_cleared_back = edits 4 (ClearCell 1) with_cut

-- It clears the cell of the deleted row.
abbrev pub with_cleared_deletion : History
with_cleared_deletion = edits 4 (ClearCell 3) with_cleared_back

-- It gets transaction 4 in SR, which no living owner has.
abbrev pub with_dead_number : History
with_dead_number = does 1 (Grant (number_resource 4) Sr) (does 1 (Ask (number_resource 4) Sr true 0) with_cleared_deletion)

-- So it marks that transaction as dead.
abbrev pub with_dead_mark : History
with_dead_mark = edits 2 (Mark 4 Dead) with_dead_number

-- It clears the cell of the row that this transaction made.
abbrev pub with_cleared_row : History
with_cleared_row = edits 4 (ClearCell 4) with_dead_mark

-- It writes the mark.
abbrev pub with_written_mark : History
with_written_mark = does 1 (Write 2 cause.Mark false) with_cleared_row
