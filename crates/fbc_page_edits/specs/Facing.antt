-- What one view shows of a page, of a cell and of a row.
use Rattle.std.specs.Prelude.{◌≡◌, ◌/◌, ◌%◌, ℕ, Some, true}
use Rattle.fbc_kinds.specs.declared.pages.Cell.{Cell}
use Rattle.fbc_kinds.specs.declared.pages.Page.{Page}
use Rattle.fbc_kinds.specs.declared.shapes.Shape.{Shape}
use Rattle.fbc_kinds.specs.Chain.{cells_of}
use Rattle.fbc_kinds.specs.Edits.{formatted}
use Rattle.fbc_kinds.specs.Reach.{LinksTo}
use Rattle.fbc_kinds.specs.View.{View, cell_at, data_of, is_empty, is_taken}

-- A page is ready to be named: it is the empty page of its kind, relation and sequence, and it is taken.
pub record IsReady (shape : Shape) (view : View) (number page_kind relation sequence : ℕ) : Type 0 where
  pub content : Page
  pub stands : view number ≡ Some content
  pub empty : formatted shape page_kind number relation sequence ≡ Some content
  pub taken : is_taken view number ≡ true

-- No cell of the page holds a version.
abbrev pub HasNoVersion : View → ℕ → Type 0
HasNoVersion view page = (cell : ℕ) (version : Cell) → cell_at view page cell ≡ Some version → is_empty version.flag ≡ true

-- A version that is reached names the cell as its back version's.
pub record IsLinked (view : View) (page cell : ℕ) : Type 0 where
  pub relation : ℕ
  pub from_page : ℕ
  pub from_cell : ℕ
  pub version : Cell
  pub links : LinksTo view relation from_page from_cell version page cell

-- The row's top stands in this cell.
pub record IsRowAt (view : View) (relation row page cell : ℕ) : Type 0 where
  pub named : data_of view relation (row / cells_of view relation) ≡ Some page
  pub place : row % cells_of view relation ≡ cell

-- Both name the same back version, or none.
pub record NameTheSame (old new : Cell) : Type 0 where
  pub page : new.back_page ≡ old.back_page
  pub cell : new.back_cell ≡ old.back_cell
