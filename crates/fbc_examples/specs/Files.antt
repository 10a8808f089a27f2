-- The small files over which the examples begin.
use Rattle.std.specs.Prelude.{◌≡◌, ℕ, ◌-◌, ◌++◌, true, false, codes, List, [], ◌∷◌, Some, unwrap_or, length, replicate, slice_get}
use Rattle.fbc_kinds.specs.declared.pages.Cell.{Cell}
use Rattle.fbc_kinds.specs.declared.pages.Flag.TheVariants as flag
use Rattle.fbc_kinds.specs.declared.pages.Header.{Header}
use Rattle.fbc_kinds.specs.declared.pages.Page.{Page}
use Rattle.fbc_kinds.specs.declared.pages.Page.TheVariants as page
use Rattle.fbc_kinds.specs.declared.pages.Relation.{Relation}
use Rattle.fbc_kinds.specs.declared.pages.State.{State}
use Rattle.fbc_kinds.specs.declared.pages.State.TheVariants.{Active, Committed}
use Rattle.fbc_kinds.specs.declared.shapes.Shape.{Shape}
use Rattle.fbc_kinds.specs.DataSpelling.{empty_cell}
use Rattle.fbc_kinds.specs.File.{stands_under}
use Rattle.fbc_kinds.specs.Sound.{IsSound}
use Rattle.fbc_page_edits.specs.Edited.{IsOfShape}
use Rattle.fbc_kinds.specs.View.{View}

-- A file of one relation, whose values have at most 10 bytes.
abbrev pub small_shape : Shape
small_shape = record { size = 1024; count = 1; names = codes "t" ∷ replicate 7 []; lengths = 10 ∷ replicate 7 0; limit = 10000 }

-- The relation, whose one pointer page is page 3.
abbrev pub relation : Relation
relation = record { name = codes "t"; length = 10; pointers = 3 ∷ [] }

-- The header with this next number. There is one page inventory, and page 2 is the one transaction inventory.
abbrev pub header : ℕ → Header
header next = record { size = 1024; next = next; inventories = 1; oldest = 0; relations = relation ∷ []; tips = 2 ∷ [] }

-- The page of that header.
abbrev pub header_page : ℕ → Page
header_page next = page.Header (header next)

-- The page inventory, by which so many of the first pages are taken.
abbrev pub inventory_page : ℕ → Page
inventory_page count = page.Inventory (record { page = 1; sequence = 0; taken = replicate count true ++ replicate (8064 - count) false })

-- The transaction inventory with these states of the first numbers, and no later number that is over.
abbrev pub tip_page : List State → Page
tip_page states = page.Tip (record { page = 2; sequence = 0; states = states ++ replicate (4032 - length states) Active })

-- The pointer page, which names this page as the first data page, or none where it is 0.
abbrev pub pointer_page : ℕ → Page
pointer_page first = page.Pointer (record { page = 3; relation = 0; sequence = 0; slots = first ∷ replicate 251 0 })

-- The first data page, which is page 4, with these cells.
abbrev pub data_page : List Cell → Page
data_page cells = page.Data (record { page = 4; relation = 0; sequence = 0; cells = cells })

-- These pages by their numbers, and blank ones behind them.
abbrev pub file_of : List Page → View
file_of pages number = Some (unwrap_or (slice_get pages number) page.Blank)

-- A file without data pages: its four pages are taken.
abbrev pub new_file : View
new_file = file_of (header_page 1 ∷ inventory_page 4 ∷ tip_page [] ∷ pointer_page 0 ∷ [])

-- A file with one data page.
abbrev pub data_file : ℕ → List State → List Cell → View
data_file next states cells = file_of (header_page next ∷ inventory_page 5 ∷ tip_page states ∷ pointer_page 4 ∷ data_page cells ∷ [])

-- The pointer page that names pages 4 and 5 as the first two data pages.
abbrev pub wide_pointer_page : Page
wide_pointer_page = page.Pointer (record { page = 3; relation = 0; sequence = 0; slots = 4 ∷ 5 ∷ replicate 250 0 })

-- The second data page, which is page 5, with these cells.
abbrev pub second_data_page : List Cell → Page
second_data_page cells = page.Data (record { page = 5; relation = 0; sequence = 1; cells = cells })

-- A file with two data pages.
abbrev pub wide_file : ℕ → List State → List Cell → List Cell → View
wide_file next states cells others =
    file_of (header_page next ∷ inventory_page 6 ∷ tip_page states ∷ wide_pointer_page ∷ data_page cells ∷ second_data_page others ∷ [])

-- A pointer page on page 5, by which page 4 would be a data page.
abbrev pub stale_pointer_page : Page
stale_pointer_page = page.Pointer (record { page = 5; relation = 0; sequence = 1; slots = 4 ∷ replicate 251 0 })

-- A file without data pages, in which that pointer page stands where nothing names it. Pages 4 and 5 are free.
abbrev pub stale_file : View
stale_file = file_of (header_page 1 ∷ inventory_page 4 ∷ tip_page [] ∷ pointer_page 0 ∷ page.Blank ∷ stale_pointer_page ∷ [])

-- A value of one byte that a transaction made, without a version before it.
abbrev pub value : ℕ → ℕ → Cell
value number byte = record { flag = flag.Primary; number = number; back_page = 0; back_cell = 0; value = byte ∷ [] }

-- The same as an older version.
abbrev pub old_value : ℕ → ℕ → Cell
old_value number byte = record { flag = flag.Back; number = number; back_page = 0; back_cell = 0; value = byte ∷ [] }

-- A version over the one in this cell of page 4.
abbrev pub over : ℕ → Cell → Cell
over cell version = record version { back_page = 4; back_cell = cell }

-- A version over the one in this cell of page 5.
abbrev pub over_far : ℕ → Cell → Cell
over_far cell version = record version { back_page = 5; back_cell = cell }

-- A deletion by a transaction.
abbrev pub deletion : ℕ → Cell
deletion number = record { flag = flag.Deletion; number = number; back_page = 0; back_cell = 0; value = [] }

-- These versions in the first cells of a data page, and empty cells behind them.
abbrev pub first_cells : List Cell → List Cell
first_cells versions = versions ++ replicate (45 - length versions) empty_cell

-- No transaction has begun, and the data page is empty.
abbrev pub empty_file : View
empty_file = data_file 1 [] (first_cells [])

-- Transaction 1 is committed, and made a row.
abbrev pub row_file : View
row_file = data_file 2 (Active ∷ Committed ∷ []) (first_cells (value 1 65 ∷ []))

-- A row of three versions, a deleted row, and a row that transaction 4 made.
abbrev pub worn_cells : List Cell
worn_cells = first_cells (over 1 (value 3 67) ∷ over 2 (old_value 2 66) ∷ old_value 1 65 ∷ deletion 3 ∷ value 4 68 ∷ [])

-- Transactions 1 to 3 are committed, and transaction 4 died.
abbrev pub worn_file : View
worn_file = data_file 5 (Active ∷ Committed ∷ Committed ∷ Committed ∷ []) worn_cells

-- A row of three versions whose older ones stand on the second data page, and a row of one version.
abbrev pub spread_cells : List Cell
spread_cells = first_cells (over_far 0 (value 3 67) ∷ value 3 68 ∷ [])

abbrev pub spread_others : List Cell
spread_others = first_cells (over_far 1 (old_value 2 66) ∷ old_value 1 65 ∷ [])

-- Transactions 1 to 3 are committed.
abbrev pub spread_file : View
spread_file = wide_file 4 (Active ∷ Committed ∷ Committed ∷ Committed ∷ []) spread_cells spread_others

-- Each page of a file stands under its own number.
abbrev pub HasOwnNumbers : View → Type 0
HasOwnNumbers file = (number : ℕ) (content : Page) → file number ≡ Some content → stands_under number content ≡ true

-- A file over which an example may begin: its pages are such as a file of the shape has, stand under their own numbers, and are
-- sound.
pub record IsStart (shape : Shape) (file : View) : Type 0 where
  pub of_shape : IsOfShape shape file
  pub own : HasOwnNumbers file
  pub sound : IsSound file
