-- The pages of the fresh file with one relation, and those after one transaction over it.
use Rattle.std.specs.Prelude.{◌-◌, ◌++◌, ℕ, List, [], ◌∷◌, true, length, map, replicate, slice_set, codes}
use Rattle.fbc_kinds.specs.declared.pages.Header.{Header}
use Rattle.fbc_kinds.specs.declared.pages.Relation.{Relation}
use Rattle.fbc_kinds.specs.declared.pages.Inventory.{Inventory}
use Rattle.fbc_kinds.specs.declared.pages.Tip.{Tip}
use Rattle.fbc_kinds.specs.declared.pages.Pointer.{Pointer}
use Rattle.fbc_kinds.specs.declared.pages.Data.{Data}
use Rattle.fbc_kinds.specs.declared.pages.Cell.{Cell}
use Rattle.fbc_kinds.specs.declared.pages.Flag.TheVariants.{Primary}
use Rattle.fbc_kinds.specs.DataSpelling.{empty_cell}
use Rattle.fbc_files.specs.NewPages.{taken_first, active_states, empty_slots}
use Rattle.fbc_kinds.specs.declared.pages.State.TheVariants.{Committed}

-- The relation `t`, whose values have at most 10 bytes and whose pointer page is page 3.
abbrev pub fresh_relation : Relation
fresh_relation = record { name = codes "t"; length = 10; pointers = 3 ∷ [] }

-- The header of a file of pages of 1,024 bytes that awaits its first transaction.
abbrev pub fresh_header : Header
fresh_header = record { size = 1024; next = 1; inventories = 1; oldest = 0; relations = fresh_relation ∷ []; tips = 2 ∷ [] }

-- The page inventory, by which pages 0 to 3 of 8,064 are taken.
abbrev pub fresh_inventory : Inventory
fresh_inventory = record { page = 1; sequence = 0; taken = taken_first 4 8060 }

-- The transaction inventory, in which no transaction is over.
abbrev pub fresh_tip : Tip
fresh_tip = record { page = 2; sequence = 0; states = active_states 4032 }

-- The pointer page, which names no data page.
abbrev pub fresh_pointer : Pointer
fresh_pointer = record { page = 3; relation = 0; sequence = 0; slots = empty_slots 252 }

-- The header after transaction 1 has begun.
abbrev pub begun_header : Header
begun_header = record { size = 1024; next = 2; inventories = 1; oldest = 0; relations = fresh_relation ∷ []; tips = 2 ∷ [] }

-- The page inventory by which page 4 is taken too.
abbrev pub filled_inventory : Inventory
filled_inventory = record { page = 1; sequence = 0; taken = slice_set (taken_first 4 8060) 4 true }

-- The transaction inventory in which transaction 1 is committed.
abbrev pub committed_tip : Tip
committed_tip = record { page = 2; sequence = 0; states = slice_set (active_states 4032) 1 Committed }

-- The pointer page that names page 4 as the relation's first data page.
abbrev pub filled_pointer : Pointer
filled_pointer = record { page = 3; relation = 0; sequence = 0; slots = slice_set (empty_slots 252) 0 4 }

-- A value that transaction 1 inserted.
abbrev pub inserted_cell : List ℕ → Cell
inserted_cell value = record { flag = Primary; number = 1; back_page = 0; back_cell = 0; value = value }

-- So many cells, of which the first hold these values.
unfoldable pub cells_of : ℕ → List (List ℕ) → List Cell
cells_of count values = map inserted_cell values ++ replicate (count - length values) empty_cell

-- The data page after these values were inserted.
abbrev pub filled_data : List (List ℕ) → Data
filled_data values = record { page = 4; relation = 0; sequence = 0; cells = cells_of 45 values }
