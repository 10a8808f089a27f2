-- How a view names a data page.
use Rattle.std.specs.Prelude.{◌/◌, ◌%◌, ◌&&◌, ℕ, Bool}
use Rattle.fbc_kinds.specs.declared.shapes.Shape.{Shape}
use Rattle.fbc_kinds.specs.Limits.{slots}
use Rattle.fbc_kinds.specs.View.{View, named_in}
use Rattle.fbc_notes.specs.HeaderTests.{is_number, names_pointer}

-- Whether a view names the data page by this pointer page, for the relation and sequence.
abbrev pub names_row : Shape → ℕ → ℕ → ℕ → ℕ → View → Bool
names_row shape relation sequence pointer page view =
    names_pointer relation (sequence / slots shape.size) pointer view && is_number (named_in (view pointer) (sequence % slots shape.size)) page
