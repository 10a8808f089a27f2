-- What an owner's copy shows in the cell of a row that its relation's data pages have for it.
use Rattle.std.specs.Prelude.{◌≡◌, ◌/◌, ◌%◌, ℕ, Some}
use Rattle.fbc_kinds.specs.declared.pages.Cell.{Cell}
use Rattle.fbc_kinds.specs.declared.pages.Page.{Page}
use Rattle.fbc_kinds.specs.declared.shapes.Shape.{Shape}
use Rattle.fbc_kinds.specs.Edits.{value_length}
use Rattle.fbc_kinds.specs.Limits.{cells}
use Rattle.fbc_kinds.specs.View.{cell_in}
use Rattle.fbc_world.specs.World.{World}
use Rattle.fbc_closed_cuts.specs.Firm.{IsFirm}
use Rattle.fbc_notes.specs.RowNames.{names_row}

-- The row has this place in the relation's data page of this sequence.
pub record IsRowOf (shape : Shape) (relation row sequence place : ℕ) : Type 0 where
  pub sequence_is : row / cells shape.size (value_length shape relation) ≡ sequence
  pub place_is : row % cells shape.size (value_length shape relation) ≡ place

-- The owner has a copy of the data page that every view names which has its drafts, and the copy shows the version in the
-- row's own cell.
pub record ShowsOwnCell (shape : Shape) (w : World) (owner relation row : ℕ) (version : Cell) : Type 0 where
  pub sequence : ℕ
  pub place : ℕ
  pub pointer : ℕ
  pub page : ℕ
  pub content : Page
  pub row_is : IsRowOf shape relation row sequence place
  pub named : IsFirm w owner (names_row shape relation sequence pointer page)
  pub copied : w.copy owner page ≡ Some content
  pub stands : cell_in (Some content) place ≡ Some version
