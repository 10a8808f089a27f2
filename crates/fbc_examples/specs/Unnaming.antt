-- Histories in which a page is named nowhere, though the file has a pointer page that names it.
use Rattle.fbc_kinds.specs.declared.edits.Edit.TheVariants.{AddPointer, Format, FreePage, TakePage, Unname}
use Rattle.fbc_world.specs.History.{History}
use Rattle.fbc_examples.specs.Steps.{edits, holds, orders, with_owner}

-- Over the file whose data page is empty, owner 1 has that page, the pointer page and the page inventory. It names the data
-- page no more, and the pointer page is to be written before the page inventory.
abbrev pub with_unnamed_page : History
with_unnamed_page = orders 3 1 (edits 3 (Unname 0) (holds 1 (holds 3 (holds 4 with_owner))))

-- It frees the page, which the pointer page in the file still names.
abbrev pub with_free_page : History
with_free_page = edits 1 (FreePage 4) with_unnamed_page

-- Over the file in which page 5 is free and spells a pointer page that names page 4, owner 1 has both pages, the header and
-- the page inventory, and takes page 5.
abbrev pub with_taken_stale : History
with_taken_stale = orders 1 5 (edits 1 (TakePage 5) (holds 1 (holds 0 (holds 5 (holds 4 with_owner)))))

-- It makes page 5 the relation's second pointer page, which is to be written before the header, and names it.
abbrev pub with_new_pointer : History
with_new_pointer = edits 0 (AddPointer 0 5) (orders 5 0 (edits 5 (Format 4 5 0 1) with_taken_stale))

-- It takes page 4.
abbrev pub with_taken_beside : History
with_taken_beside = orders 1 4 (edits 1 (TakePage 4) with_new_pointer)

-- It makes page 4 a data page, which may be written while page 5 in the file names it still.
abbrev pub with_page_beside : History
with_page_beside = edits 4 (Format 5 4 0 0) with_taken_beside
