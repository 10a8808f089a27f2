use Rattle.std.proofs.Common.{◌≡◌, ◌<◌, ◌+◌, ◌*◌, ◌-◌, ℕ, length, drop, replicate, slice_index_or}
use Rattle.fbc_kinds.specs.DataSpelling.{SpellsCell, empty_cell, piece}
use Rattle.fbc_cells.proofs.data.encode_cells.Given as goal

abbrev pub invariant-loop-k : goal.invariant-loop-k
invariant-loop-k l =
    ((k : ℕ) → k < l.k → SpellsCell l.greatest (slice_index_or l.cells k empty_cell) (piece (12 + l.greatest) k l.out))
    × (drop ((12 + l.greatest) * l.k) l.out ≡ replicate (length l.fn.out - (12 + l.greatest) * l.k) 0)
