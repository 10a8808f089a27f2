-- Histories in which pages are taken, made, named and freed, over a file without data pages.
use Rattle.fbc_kinds.specs.declared.edits.Edit.TheVariants.{AddInventory, AddPointer, AddTip, Format, FreePage, Name, TakePage, Unname}
use Rattle.fbc_world.specs.History.{History}
use Rattle.fbc_examples.specs.Steps.{edits, holds, orders, with_owner}

-- Owner 1 has page 4, the pointer page, the header and the page inventory, and takes page 4.
abbrev pub with_taken_page : History
with_taken_page = orders 1 4 (edits 1 (TakePage 4) (holds 1 (holds 0 (holds 3 (holds 4 with_owner)))))

-- It makes page 4 the first data page, and names it.
abbrev pub with_data_page : History
with_data_page = edits 3 (Name 0 4) (orders 4 3 (edits 4 (Format 5 4 0 0) with_taken_page))

-- It names that page no more, and frees it.
abbrev pub with_freed_page : History
with_freed_page = edits 1 (FreePage 4) (edits 3 (Unname 0) with_data_page)

-- It makes page 4 the relation's second pointer page, and names it.
abbrev pub with_pointer_page : History
with_pointer_page = edits 0 (AddPointer 0 4) (orders 4 0 (edits 4 (Format 4 4 0 1) with_taken_page))

-- It makes page 4 the second transaction inventory, and names it.
abbrev pub with_tip : History
with_tip = edits 0 (AddTip 4) (orders 4 0 (edits 4 (Format 3 4 0 1) with_taken_page))

-- Owner 1 makes the first page past the page inventory the second one, and counts it.
abbrev pub with_inventory : History
with_inventory = edits 0 AddInventory (orders 8064 0 (edits 8064 (Format 2 8064 0 1) (holds 8064 (holds 0 with_owner))))
