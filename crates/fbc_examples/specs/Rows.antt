-- Histories in which rows are changed: a transaction begins, and is committed or rolled back.
use Rattle.fbc_kinds.specs.declared.edits.Edit.TheVariants.{ClearCell, Format, Mark, Name, PutCell, SetNext, TakePage}
use Rattle.fbc_kinds.specs.declared.pages.State.TheVariants.{Committed, Dead}
use Rattle.fbc_world.specs.declared.events.Act.TheVariants.{Local}
use Rattle.fbc_world.specs.declared.events.LocalEvent.TheVariants as local
use Rattle.fbc_world.specs.History.{History}
use Rattle.fbc_examples.specs.Files.{deletion, old_value, over, value}
use Rattle.fbc_examples.specs.Steps.{begins, does, edits, holds, orders, with_owner, writes}

-- Over the file whose data page is empty, owner 1 has the data page, the header and the transaction inventory.
abbrev pub with_pages : History
with_pages = holds 2 (holds 0 (holds 4 with_owner))

-- It begins transaction 1, and the next number becomes 2.
abbrev pub with_begin : History
with_begin = edits 0 (SetNext 2) (begins 1 with_pages)

-- It may pin the header no more.
abbrev pub with_unpinned_header : History
with_unpinned_header = does 1 (Local (local.Unpin 0)) with_begin

-- Or it puts a row.
abbrev pub with_row : History
with_row = edits 4 (PutCell 0 (value 1 65)) (orders 0 4 with_begin)

-- It gives the row another value.
abbrev pub with_changed_row : History
with_changed_row = edits 4 (PutCell 0 (value 1 66)) with_row

-- It writes the header and then the data page, marks the transaction as committed, and writes that mark.
abbrev pub with_commit : History
with_commit = writes 2 (edits 2 (Mark 1 Committed) (writes 4 (writes 0 with_changed_row)))

-- Over the file that has a row, it begins transaction 2, and the next number becomes 3.
abbrev pub with_second_begin : History
with_second_begin = edits 0 (SetNext 3) (begins 2 with_pages)

-- It moves the row's value to cell 1.
abbrev pub with_moved_value : History
with_moved_value = edits 4 (PutCell 1 (old_value 1 65)) (orders 0 4 with_second_begin)

-- It gives the row a new version over that.
abbrev pub with_new_version : History
with_new_version = edits 4 (PutCell 0 (over 1 (value 2 66))) with_moved_value

-- Or it deletes the row.
abbrev pub with_deletion : History
with_deletion = edits 4 (PutCell 0 (over 1 (deletion 2))) with_moved_value

-- Where it gave the row the new version, it marks the transaction as dead.
abbrev pub with_rollback : History
with_rollback = edits 2 (Mark 2 Dead) (orders 0 2 with_new_version)

-- It takes the new version out again.
abbrev pub with_backout : History
with_backout = edits 4 (PutCell 0 (value 1 65)) with_rollback

-- It clears the cell of the moved value.
abbrev pub with_cleared_move : History
with_cleared_move = edits 4 (ClearCell 1) with_backout

-- Over the file without data pages, owner 1 has page 4 and all others, begins transaction 1, and the next number becomes 2.
abbrev pub with_whole_file : History
with_whole_file = edits 0 (SetNext 2) (begins 1 (holds 2 (holds 1 (holds 0 (holds 3 (holds 4 with_owner))))))

-- It takes page 4, makes it the first data page, and names it.
abbrev pub with_new_page : History
with_new_page = edits 3 (Name 0 4) (orders 4 3 (edits 4 (Format 5 4 0 0) (orders 1 4 (edits 1 (TakePage 4) with_whole_file))))

-- It puts a row on that page.
abbrev pub with_first_row : History
with_first_row = edits 4 (PutCell 0 (value 1 65)) (orders 0 4 with_new_page)

-- It writes the header, the page inventory, the data page and the pointer page, and then the mark of the commit.
abbrev pub with_first_commit : History
with_first_commit = writes 2 (edits 2 (Mark 1 Committed) (writes 3 (writes 4 (writes 1 (writes 0 with_first_row)))))
