-- Histories in which versions stand on another page than their row.
use Rattle.fbc_kinds.specs.declared.edits.Edit.TheVariants.{ClearCell, Mark, PutCell, SetNext}
use Rattle.fbc_kinds.specs.declared.pages.State.TheVariants.{Committed}
use Rattle.fbc_world.specs.History.{History}
use Rattle.fbc_examples.specs.Files.{old_value, over_far, value}
use Rattle.fbc_examples.specs.Steps.{begins, edits, holds, orders, with_owner, writes}

-- Owner 1 has both data pages, the header and the transaction inventory.
abbrev pub with_spread_pages : History
with_spread_pages = holds 2 (holds 0 (holds 5 (holds 4 with_owner)))

-- It cuts the oldest version of the row off from the one over it. Both stand on page 5, and the row on page 4.
abbrev pub with_far_cut : History
with_far_cut = edits 5 (PutCell 0 (old_value 2 66)) with_spread_pages

-- It clears the cell of the oldest version.
abbrev pub with_far_oldest : History
with_far_oldest = edits 5 (ClearCell 1) with_far_cut

-- It cuts the other older version off from the row, whose page is to be written before page 5.
abbrev pub with_row_cut : History
with_row_cut = orders 4 5 (edits 4 (PutCell 0 (value 3 67)) with_far_oldest)

-- It clears the cell of that version too.
abbrev pub with_far_clearing : History
with_far_clearing = edits 5 (ClearCell 0) with_row_cut

-- It writes both pages.
abbrev pub with_far_writes : History
with_far_writes = writes 5 (writes 4 with_far_clearing)

-- Where it has both data pages, it begins transaction 4, and the next number becomes 5.
abbrev pub with_spread_begin : History
with_spread_begin = edits 0 (SetNext 5) (begins 4 with_spread_pages)

-- It moves the value of the other row to page 5, which is to be written before page 4. So is the header.
abbrev pub with_far_move : History
with_far_move = orders 5 4 (edits 5 (PutCell 2 (old_value 3 68)) (orders 0 4 with_spread_begin))

-- It gives that row a new version over the moved one.
abbrev pub with_far_version : History
with_far_version = edits 4 (PutCell 1 (over_far 2 (value 4 69))) with_far_move

-- It writes the header, the page of the moved value and the page of the row, and then the mark of the commit.
abbrev pub with_far_commit : History
with_far_commit = writes 2 (edits 2 (Mark 4 Committed) (writes 4 (writes 5 (writes 0 with_far_version))))
