-- Where a row stands.
use Rattle.std.specs.Prelude.{◌/◌, ◌%◌, ℕ}
use Rattle.fbc_kinds.specs.declared.shapes.Shape.{Shape}
use Rattle.fbc_kinds.specs.Edits.{value_length}
use Rattle.fbc_kinds.specs.Limits.{cells}
use Rattle.fbc_chains.specs.declared.places.RowPlace.{RowPlace}

-- How many cells each data page of a relation has.
abbrev pub row_cells : Shape → ℕ → ℕ
row_cells shape relation = cells shape.size (value_length shape relation)

-- The place of a row: rows count the cells of the relation's data pages in the order of their sequences.
abbrev pub row_place : Shape → ℕ → ℕ → RowPlace
row_place shape relation row = record { relation = relation; sequence = row / row_cells shape relation; cell = row % row_cells shape relation }
