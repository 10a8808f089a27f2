-- A view with one page changed, and views of files of one shape.
use Rattle.std.specs.Prelude.{◌≡◌, ◌==◌, ℕ, if◌then◌else◌, Some}
use Rattle.fbc_kinds.specs.declared.pages.Page.{Page}
use Rattle.fbc_kinds.specs.declared.pages.Relation.{Relation}
use Rattle.fbc_kinds.specs.declared.shapes.Shape.{Shape}
use Rattle.fbc_kinds.specs.Edits.{IsShape, IsWithinLimits, value_length}
use Rattle.fbc_kinds.specs.View.{View, relation_of}

-- The view with another content of one page.
abbrev pub with_page : View → ℕ → Page → View
with_page view number content other = if other == number then Some content else view other

-- A view of a file of this shape: each page that is spelled is within its limits, and the values of each relation have the
-- shape's greatest length.
pub record IsOfShape (shape : Shape) (view : View) : Type 0 where
  pub is_shape : IsShape shape
  pub within : (number : ℕ) (content : Page) → view number ≡ Some content → IsWithinLimits shape content
  pub lengths : (relation : ℕ) (entry : Relation) → relation_of view relation ≡ Some entry → entry.length ≡ value_length shape relation
