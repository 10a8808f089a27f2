use Rattle.std.proofs.Common.{◌≡◌, ◌<◌, ◌+◌, ◌*◌, ◌-◌, ℕ, length, slice_index_or}
use Rattle.std.specs.List.{All}
use Rattle.fbc_kinds.specs.DataSpelling.{IsCell, SpellsCell, empty_cell, piece}
use Rattle.fbc_cells.proofs.data.read_cells.Given as goal

abbrev pub invariant-loop-k : goal.invariant-loop-k
invariant-loop-k l =
    (length l.cells.items ≡ l.k) × All (IsCell l.greatest) l.cells.items
    × ((k : ℕ) → k < l.k → SpellsCell l.greatest (slice_index_or l.cells.items k empty_cell) (piece (12 + l.greatest) k l.bytes))
