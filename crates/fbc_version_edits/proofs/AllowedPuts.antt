-- Which form an edit of a cell has that a view allows.
use Rattle.std.proofs.Common.{◌≡◌, ℕ, Option, Some, None, refl}
use Rattle.fbc_kinds.specs.declared.edits.Edit.TheVariants.{ClearCell, PutCell}
use Rattle.fbc_kinds.specs.declared.pages.Cell.{Cell}
use Rattle.fbc_kinds.specs.declared.pages.Page.{Page}
use Rattle.fbc_kinds.specs.declared.pages.Page.TheVariants as kind
use Rattle.fbc_kinds.specs.declared.shapes.Shape.{Shape}
use Rattle.fbc_kinds.specs.View.{View}
use Rattle.fbc_page_edits.specs.Allowed.{Fits}
use Rattle.fbc_version_edits.specs.Forms.{AllowsPutOn, IsAdmittedEdit}
use Rattle.fbc_version_edits.specs.Puts.{IsAllowedClear, IsAllowedPut, IsClearIn}

pub put_allowed : (shape : Shape) (view : View) (number cell : ℕ) (new : Cell) (content : Page) → IsAdmittedEdit shape view number (PutCell cell new) content
    → IsAllowedPut shape view number cell new content
put_allowed shape view number cell new content is = go (view number) refl is.fits is.allowed
  where
    go : (found : Option Page) → view number ≡ found → Fits shape (PutCell cell new) found content → AllowsPutOn view number cell new found → IsAllowedPut shape view number cell new content
    go (Some (kind.Data d)) stands fits allowed = record {
      put = record { of_shape = is.of_shape; sound = is.sound; page = d; stands = stands; fits = fits };
      allowed = allowed;
    }
    go None stands fits allowed = absurd fits
    go _ stands fits allowed = absurd allowed

-- A cell of a data page is cleared.
pub clear_allowed : (shape : Shape) (view : View) (number cell : ℕ) (content : Page) → IsAdmittedEdit shape view number (ClearCell cell) content → IsAllowedClear shape view number cell content
clear_allowed shape view number cell content is = record { clear = go (view number) refl is.fits; allowed = is.allowed }
  where
    go : (found : Option Page) → view number ≡ found → Fits shape (ClearCell cell) found content → IsClearIn shape view number cell content
    go (Some (kind.Data d)) stands fits = record { of_shape = is.of_shape; sound = is.sound; page = d; stands = stands; fits = fits }
    go None stands fits = absurd fits
    go _ stands fits = cc
