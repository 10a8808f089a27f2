-- Edits of one cell of a data page of a sound view.
use Rattle.std.specs.Prelude.{◌≡◌, ℕ, Some}
use Rattle.fbc_kinds.specs.declared.pages.Cell.{Cell}
use Rattle.fbc_kinds.specs.declared.pages.Data.{Data}
use Rattle.fbc_kinds.specs.declared.pages.Page.{Page}
use Rattle.fbc_kinds.specs.declared.pages.Page.TheVariants as kind
use Rattle.fbc_kinds.specs.declared.shapes.Shape.{Shape}
use Rattle.fbc_kinds.specs.Edits.{cell_cleared, cell_put}
use Rattle.fbc_kinds.specs.Sound.{IsSound}
use Rattle.fbc_kinds.specs.View.{View}
use Rattle.fbc_version_edits.specs.Forms.{AllowsClear, AllowsPut}
use Rattle.fbc_page_edits.specs.Edited.{IsOfShape}

-- A version is put into a cell of a data page, and makes this content of the page.
pub record IsPutIn (shape : Shape) (view : View) (number cell : ℕ) (new : Cell) (content : Page) : Type 0 where
  pub of_shape : IsOfShape shape view
  pub sound : IsSound view
  pub page : Data
  pub stands : view number ≡ Some (kind.Data page)
  pub fits : cell_put shape cell new (kind.Data page) ≡ Some content

-- A cell of a data page is cleared, which makes this content of the page.
pub record IsClearIn (shape : Shape) (view : View) (number cell : ℕ) (content : Page) : Type 0 where
  pub of_shape : IsOfShape shape view
  pub sound : IsSound view
  pub page : Data
  pub stands : view number ≡ Some (kind.Data page)
  pub fits : cell_cleared cell (kind.Data page) ≡ Some content

-- A version is put in a form that the view allows.
pub record IsAllowedPut (shape : Shape) (view : View) (number cell : ℕ) (new : Cell) (content : Page) : Type 0 where
  pub put : IsPutIn shape view number cell new content
  pub allowed : AllowsPut view put.page.relation number cell new

-- A cell is cleared that may be.
pub record IsAllowedClear (shape : Shape) (view : View) (number cell : ℕ) (content : Page) : Type 0 where
  pub clear : IsClearIn shape view number cell content
  pub allowed : AllowsClear view number cell
