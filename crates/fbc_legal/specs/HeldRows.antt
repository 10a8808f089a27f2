-- Rows whose pages an owner has while it edits a version below them.
use Rattle.std.specs.Prelude.{◌≡◌, ℕ, Some, true}
use Rattle.fbc_kinds.specs.declared.pages.Cell.{Cell}
use Rattle.fbc_kinds.specs.declared.shapes.Shape.{Shape}
use Rattle.fbc_kinds.specs.View.{View, cell_at, is_top}
use Rattle.fbc_levels.specs.declared.levels.Level.TheVariants.{Ex}
use Rattle.fbc_world.specs.History.{History}
use Rattle.fbc_levels.specs.Resources.{page_resource}
use Rattle.fbc_world.specs.Owners.{granted}
use Rattle.fbc_world.specs.PageCell.{newest}
use Rattle.fbc_legal.specs.Leans.{LeadsTo}

-- The chain of a row leads to the cell, in the newest pages, and the owner has the row's page in EX.
pub record IsBelowHeldRow (shape : Shape) (file : View) (past : History) (owner page cell : ℕ) : Type 0 where
  pub row_page : ℕ
  pub row_cell : ℕ
  pub top : Cell
  pub stands : cell_at (newest shape file past) row_page row_cell ≡ Some top
  pub is_first : is_top top.flag ≡ true
  pub leads : LeadsTo (newest shape file past) row_page row_cell page cell
  pub held : granted past owner (page_resource row_page) ≡ Ex
