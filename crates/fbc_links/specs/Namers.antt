-- Which version named a cell first, by the marks beside the pages.
use Rattle.std.specs.Prelude.{ℕ, List, [], Option, Some, None, slice_get}
use Rattle.std.specs.Global.{Vec}
use Rattle.std.specs.Option.{option_flatten}
use Rattle.fbc_links.specs.declared.namers.Namers.{Namers}
use Rattle.fbc_links.specs.declared.namers.Place.{Place}

-- The mark of a cell in a row; a cell that the row does not reach has none.
abbrev pub mark_in : List (Option Place) → ℕ → Option Place
mark_in marks cell = option_flatten (slice_get marks cell)

-- The marks of a page's row, if there is one.
abbrev pub marks_of : Option (Vec (Option Place)) → List (Option Place)
marks_of None = []
marks_of (Some row) = row.items

-- The mark of a cell in the row of an index, and the version that named the cell first.
abbrev pub mark_at : List (Vec (Option Place)) → ℕ → ℕ → Option Place
mark_at rows index cell = mark_in (marks_of (slice_get rows index)) cell

abbrev pub namer_at : Namers → ℕ → ℕ → Option Place
namer_at namers index cell = mark_at namers.rows.items index cell
