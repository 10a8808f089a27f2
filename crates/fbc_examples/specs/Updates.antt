-- A history in which a row is updated, swept, and updated again. It goes on where its first version is committed, so that
-- each version of the row has a number of its own by which it is known.
use Rattle.fbc_kinds.specs.declared.edits.Edit.TheVariants.{ClearCell, Mark, PutCell, SetNext}
use Rattle.fbc_kinds.specs.declared.pages.State.TheVariants.{Committed}
use Rattle.fbc_world.specs.History.{History}
use Rattle.fbc_legal.specs.Scene.{number_resource}
use Rattle.fbc_examples.specs.Files.{old_value, over, value}
use Rattle.fbc_examples.specs.Steps.{begins, edits, frees, orders, writes}
use Rattle.fbc_examples.specs.Writing.{with_free_number}

-- Owner 1 begins transaction 2, and the next number becomes 3.
abbrev pub with_next_begin : History
with_next_begin = edits 0 (SetNext 3) (begins 2 with_free_number)

-- It moves the row's value to cell 1.
abbrev pub with_moved_first : History
with_moved_first = edits 4 (PutCell 1 (old_value 1 66)) (orders 0 4 with_next_begin)

-- It gives the row a new version over that.
abbrev pub with_update : History
with_update = edits 4 (PutCell 0 (over 1 (value 2 67))) with_moved_first

-- It commits, and gives the number up.
abbrev pub with_free_update : History
with_free_update = frees 1 (number_resource 2) (writes 2 (edits 2 (Mark 2 Committed) (writes 4 (writes 0 with_update))))

-- It cuts the older version off from the newest one.
abbrev pub with_swept_link : History
with_swept_link = edits 4 (PutCell 0 (value 2 67)) with_free_update

-- It clears the cell of the older version.
abbrev pub with_swept_row : History
with_swept_row = edits 4 (ClearCell 1) with_swept_link

-- It begins transaction 3, and the next number becomes 4.
abbrev pub with_last_begin : History
with_last_begin = edits 0 (SetNext 4) (begins 3 with_swept_row)

-- It moves the row's value to cell 1 again.
abbrev pub with_moved_second : History
with_moved_second = edits 4 (PutCell 1 (old_value 2 67)) (orders 0 4 with_last_begin)

-- It updates the row again.
abbrev pub with_next_update : History
with_next_update = edits 4 (PutCell 0 (over 1 (value 3 68))) with_moved_second
