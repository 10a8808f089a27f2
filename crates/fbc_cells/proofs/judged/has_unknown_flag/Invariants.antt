use Rattle.std.proofs.Common.{◌≡◌, false}
use Rattle.fbc_kinds.specs.DataSpelling.{any_piece, has_unknown_flag}
use Rattle.fbc_cells.proofs.judged.has_unknown_flag.Given as goal

abbrev pub invariant-loop-k : goal.invariant-loop-k
invariant-loop-k l = any_piece has_unknown_flag l.width l.k l.cells ≡ false
