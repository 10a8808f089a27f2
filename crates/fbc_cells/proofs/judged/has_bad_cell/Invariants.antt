use Rattle.std.proofs.Common.{◌≡◌, ◌+◌, false}
use Rattle.fbc_kinds.specs.DataSpelling.{any_piece, is_bad_cell}
use Rattle.fbc_cells.proofs.judged.has_bad_cell.Given as goal

abbrev pub invariant-loop-k : goal.invariant-loop-k
invariant-loop-k l = any_piece (is_bad_cell l.greatest) (12 + l.greatest) l.k l.cells ≡ false
