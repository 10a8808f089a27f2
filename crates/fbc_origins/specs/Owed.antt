-- Where all is in order, and what is owed there of edits of what is no cell.
use Rattle.std.specs.Prelude.{◌≡◌, ℕ, Bool, true, false, Some}
use Rattle.fbc_kinds.specs.declared.edits.Edit.{Edit}
use Rattle.fbc_kinds.specs.declared.edits.Edit.TheVariants as edit
use Rattle.fbc_kinds.specs.declared.pages.Page.{Page}
use Rattle.fbc_kinds.specs.View.{View}
use Rattle.fbc_page_edits.specs.Alike.{HasNoMoreLinks}
use Rattle.fbc_page_edits.specs.Edited.{with_page}
use Rattle.fbc_world.specs.World.{page_after}
use Rattle.fbc_legal.specs.Guards.{GuardOfEdit}
use Rattle.fbc_legal.specs.Scene.{Scene}
use Rattle.fbc_legal.specs.Stamps.{Stamps}
use Rattle.fbc_closed_cuts.specs.Owed.{SeesEdit}
use Rattle.fbc_closed_cuts.specs.Upheld.{IsUpheld}
use Rattle.fbc_numbers.specs.Numbers.{IsNumbered}
use Rattle.fbc_origins.specs.Origins.{IsOriginal}

-- What stands after a history is upheld, and its numbers, marks and stamps are in order.
pub record IsInOrder (at : Scene) : Type 0 where
  pub upheld : IsUpheld at
  pub numbered : IsNumbered at
  pub original : IsOriginal at

-- Whether an edit leaves all cells.
abbrev pub leaves_cells : Edit → Bool
leaves_cells (edit.PutCell cell content) = false
leaves_cells (edit.ClearCell cell) = false
leaves_cells (edit.Format k page relation sequence) = false
leaves_cells _ = true

-- Each view that sees an edit of what is no cell has no more links after it.
abbrev pub LinksStay : Scene → ℕ → ℕ → Edit → Page → Type 0
LinksStay at owner page e content = leaves_cells e ≡ true → (seen : View) (stamps : ℕ → Stamps) → SeesEdit at owner page seen stamps → HasNoMoreLinks seen (with_page seen page content)

-- So it is with each edit that may come.
abbrev pub MakeNoLinks : Scene → Type 0
MakeNoLinks at = (owner page : ℕ) (e : Edit) (content : Page) → GuardOfEdit at owner page e → page_after at.shape at.world owner page e ≡ Some content → LinksStay at owner page e content
