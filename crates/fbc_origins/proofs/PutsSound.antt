-- Each view that sees a cell edited admits the edit.
use Rattle.fbc_kinds.specs.declared.edits.Edit.TheVariants.{ClearCell, PutCell}
use Rattle.fbc_kinds.specs.declared.pages.Cell.{Cell}
use Rattle.fbc_kinds.specs.declared.pages.Page.{Page}
use Rattle.fbc_kinds.specs.declared.shapes.Shape.{Shape}
use Rattle.fbc_kinds.specs.View.{View}
use Rattle.std.proofs.Common.{ℕ}
use Rattle.fbc_version_edits.specs.Forms.{IsAdmittedEdit}
use Rattle.fbc_world.specs.History.{History}
use Rattle.fbc_legal.specs.Scene.{scene_of}
use Rattle.fbc_legal.specs.Stamps.{Stamps}
use Rattle.fbc_closed_cuts.specs.Owed.{IsSeenEdit}
use Rattle.fbc_origins.specs.Owed.{IsInOrder}
use Rattle.fbc_origins.proofs.ClearsAllowed.{clears-allowed}
use Rattle.fbc_origins.proofs.PutsAllowed.{puts-allowed}

module _ (shape : Shape) (file : View) (past : History) (order : IsInOrder (scene_of shape file past)) (owner page cell : ℕ) (made : Page) (seen : View) (stamps : ℕ → Stamps) where
  pub admits-put : (content : Cell) → IsSeenEdit shape file past owner page (PutCell cell content) made seen stamps → IsAdmittedEdit shape seen page (PutCell cell content) made
  admits-put content is = record {
    of_shape = is.of_shape;
    sound = is.sound;
    own = tt;
    fits = is.fits;
    allowed = puts-allowed (scene_of shape file past) order.upheld order.numbered order.original owner page cell content is.guard seen stamps is.sees;
  }

  pub admits-clear : IsSeenEdit shape file past owner page (ClearCell cell) made seen stamps → IsAdmittedEdit shape seen page (ClearCell cell) made
  admits-clear is = record {
    of_shape = is.of_shape;
    sound = is.sound;
    own = tt;
    fits = is.fits;
    allowed = clears-allowed (scene_of shape file past) order owner page cell is.guard seen stamps is.sees;
  }
