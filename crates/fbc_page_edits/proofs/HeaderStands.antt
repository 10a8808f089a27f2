-- A sound view has a header, of the shape's page size.
use Rattle.std.proofs.Common.{◌≡◌, ℕ, true, Option, Some, None, refl, ap, ◌∙◌}
use Rattle.std.specs.Option.{option_map_or}
use Rattle.fbc_kinds.specs.declared.pages.Header.{Header}
use Rattle.fbc_kinds.specs.declared.pages.Page.{Page}
use Rattle.fbc_kinds.specs.declared.pages.Page.TheVariants as kind
use Rattle.fbc_kinds.specs.declared.shapes.Shape.{Shape}
use Rattle.fbc_kinds.specs.HeaderSpelling.{IsHeader}
use Rattle.fbc_kinds.specs.Reach.{HeaderRole, shows_role}
use Rattle.fbc_kinds.specs.Sound.{IsSound}
use Rattle.fbc_kinds.specs.View.{View, header_in, header_of, size_of}
use Rattle.fbc_page_edits.specs.Edited.{IsOfShape}

-- A header stands at page 0.
pub record HasHeader (view : View) : Type 0 where
  pub header : Header
  pub stands : view 0 ≡ Some (kind.Header header)

shown_header : (number : ℕ) (o : Option Page) → shows_role HeaderRole number o ≡ true → (h : Header) × (o ≡ Some (kind.Header h))
shown_header number (Some (kind.Header h)) shown = (h, refl)
shown_header number None shown = cc
shown_header number (Some _) shown = cc

pub has_header : (view : View) → IsSound view → HasHeader view
has_header view sound = let found = shown_header 0 (view 0) (sound.fitting HeaderRole 0 refl) in record { header = found.0; stands = found.1 }

pub header_is : (view : View) (header : Header) → view 0 ≡ Some (kind.Header header) → header_of view ≡ Some header
header_is view header stands = ap header_in stands

-- The header's limits, and its page size.
pub header_fits : (shape : Shape) (view : View) (header : Header) → IsOfShape shape view → view 0 ≡ Some (kind.Header header) → IsHeader shape.size header
header_fits shape view header of_shape stands = of_shape.within 0 (kind.Header header) stands

pub size_is : (shape : Shape) (view : View) → IsOfShape shape view → IsSound view → size_of view ≡ shape.size
size_is shape view of_shape sound =
    let found = has_header view sound in
    let fits = header_fits shape view found.header of_shape found.stands in
    ap (λ (o : Option Header). option_map_or (λ (h : Header). h.size) o 0) (header_is view found.header found.stands) ∙ fits.page_size
