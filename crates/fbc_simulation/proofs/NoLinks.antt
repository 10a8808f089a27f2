-- A back value that names no back version names no cell of it either.
use Rattle.std.proofs.Common.{◌≡◌, ℕ, true, Option, Some, None, refl, subst}
use Rattle.std.proofs.lemmas.List.Elements.{All-get_or}
use Rattle.std.proofs.lemmas.Option.{get_or_from_slice_get, slice_get_within}
use Rattle.fbc_kinds.specs.declared.pages.Cell.{Cell}
use Rattle.fbc_kinds.specs.declared.pages.Flag.{Flag}
use Rattle.fbc_kinds.specs.declared.pages.Flag.TheVariants as flag
use Rattle.fbc_kinds.specs.declared.pages.Page.{Page}
use Rattle.fbc_kinds.specs.declared.pages.Page.TheVariants as kind
use Rattle.fbc_kinds.specs.declared.shapes.Shape.{Shape}
use Rattle.fbc_kinds.specs.DataSpelling.{IsCell, IsContent}
use Rattle.fbc_kinds.specs.Edits.{IsWithinLimits, value_length}
use Rattle.fbc_kinds.specs.View.{View, cell_at, cell_in, is_back}
use Rattle.fbc_page_edits.specs.Edited.{IsOfShape}

by_flag : (f : Flag) (greatest : ℕ) (version : Cell) → is_back f ≡ true → IsContent f greatest version → version.back_page ≡ 0 → version.back_cell ≡ 0
by_flag flag.Back greatest version back content none = content.0.back none
by_flag flag.Empty greatest version back content none = absurd cc
by_flag flag.Primary greatest version back content none = absurd cc
by_flag flag.Deletion greatest version back content none = absurd cc

in_page : (shape : Shape) (found : Option Page) (cell : ℕ) (version : Cell) → ((content : Page) → found ≡ Some content → IsWithinLimits shape content) → cell_in found cell ≡ Some version
    → is_back version.flag ≡ true → version.back_page ≡ 0 → version.back_cell ≡ 0
in_page shape (Some (kind.Data d)) cell version within stands back none =
    let P : Cell → Type 0 = IsCell (value_length shape d.relation) in
    let fits : IsCell (value_length shape d.relation) version =
    subst P (get_or_from_slice_get d.cells cell version version stands) (All-get_or P d.cells cell version (slice_get_within d.cells cell version stands) (within (kind.Data d) refl).each) in
    by_flag version.flag (value_length shape d.relation) version back fits none
in_page shape None cell version within stands back none = absurd cc
in_page shape (Some _) cell version within stands back none = absurd cc

pub no-link : (shape : Shape) (seen : View) (page cell : ℕ) (version : Cell) → IsOfShape shape seen → cell_at seen page cell ≡ Some version → is_back version.flag ≡ true → version.back_page ≡ 0
    → version.back_cell ≡ 0
no-link shape seen page cell version of_shape stands back none = in_page shape (seen page) cell version (of_shape.within page) stands back none
