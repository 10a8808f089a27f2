-- Histories in which two owners have open transactions and one of them dies, and in which the file is opened again where
-- all are dead.
use Rattle.std.specs.Prelude.{true, false}
use Rattle.fbc_kinds.specs.declared.edits.Edit.TheVariants.{ClearCell, Mark, PutCell, SetNext}
use Rattle.fbc_kinds.specs.declared.pages.State.TheVariants.{Dead}
use Rattle.fbc_levels.specs.declared.levels.Level.TheVariants.{Sr}
use Rattle.fbc_world.specs.declared.asks.Ask.TheVariants as ask
use Rattle.fbc_world.specs.declared.asks.Cause.TheVariants.{Mark as ForMark}
use Rattle.fbc_world.specs.declared.events.Act.TheVariants.{Ask, Die, Enter, Grant, Local, Opened, Reap, Write}
use Rattle.fbc_world.specs.declared.events.LocalEvent.TheVariants as local
use Rattle.fbc_world.specs.History.{History}
use Rattle.fbc_levels.specs.Resources.{page_resource}
use Rattle.fbc_legal.specs.Scene.{number_resource}
use Rattle.fbc_examples.specs.Files.{old_value}
use Rattle.fbc_examples.specs.Rows.{with_changed_row}
use Rattle.fbc_examples.specs.Steps.{does, edits, edits_by, frees, gets, holds, holds_by, with_owner, writes}

-- Over the file that has worn rows, owner 1 has the header and the transaction inventory, and begins transaction 5, where 4 is
-- the least active one. The next number becomes 6.
abbrev pub with_first_open : History
with_first_open = edits 0 (SetNext 6) (gets 1 (number_resource 5) 4 (holds 2 (holds 0 with_owner)))

-- It writes the header, and gives both pages up.
abbrev pub with_free_pages : History
with_free_pages = frees 1 (page_resource 2) (frees 1 (page_resource 0) (writes 0 (does 1 (Local (local.Unpin 2)) (does 1 (Local (local.Unpin 0)) with_first_open))))

-- Owner 2 comes, and has the data page, the header and the transaction inventory.
abbrev pub with_second_owner : History
with_second_owner = holds_by 2 2 (holds_by 2 0 (holds_by 2 4 (does 2 (Enter 8 2) with_free_pages)))

-- It begins transaction 6, and the next number becomes 7. Both transactions are open.
abbrev pub with_two_open : History
with_two_open = edits_by 2 0 (SetNext 7) (gets 2 (number_resource 6) 4 with_second_owner)

-- It cuts the oldest version of a row off from the one over it, which both snapshots hold.
abbrev pub with_shared_cut : History
with_shared_cut = edits_by 2 4 (PutCell 1 (old_value 2 66)) with_two_open

-- Owner 1 dies. Owner 2 asks for the number of its transaction in SR, and what owner 1 left is taken away before.
abbrev pub with_survivor : History
with_survivor = does 2 (Reap 1 (ask.Lock (number_resource 5) Sr true 0)) (does 1 Die with_shared_cut)

-- Owner 2 gets that number.
abbrev pub with_left_number : History
with_left_number = does 2 (Grant (number_resource 5) Sr) (does 2 (Ask (number_resource 5) Sr true 0) with_survivor)

-- It marks the number as dead, and writes the mark.
abbrev pub with_buried_number : History
with_buried_number = does 2 (Write 2 ForMark false) (edits_by 2 2 (Mark 5 Dead) with_left_number)

-- Over the file whose data page is empty, owner 1 puts a row, and dies where the row is written and not committed. The file is
-- opened again.
abbrev pub with_reopened_file : History
with_reopened_file = does 0 (Opened 16) (does 1 Die (writes 4 (writes 0 with_changed_row)))

-- Owner 2 comes by the name of owner 1. It has the data page and the transaction inventory, and gets the number in SR.
abbrev pub with_heir : History
with_heir = does 2 (Grant (number_resource 1) Sr) (does 2 (Ask (number_resource 1) Sr true 0) (holds_by 2 2 (holds_by 2 4 (does 2 (Enter 8 1) with_reopened_file))))

-- It marks the number as dead, and clears the cell of the row.
abbrev pub with_lost_row : History
with_lost_row = edits_by 2 4 (ClearCell 0) (edits_by 2 2 (Mark 1 Dead) with_heir)
