use Rattle.std.proofs.Common.{◌≡◌, drop, true}
use Rattle.fbc_script.specs.Pieces.{has_single_spaces}
use Rattle.fbc_script.proofs.pieces.has_single_spaces.Given as goal

-- What is left decides.
abbrev pub invariant-loop-byte : goal.invariant-loop-byte
invariant-loop-byte l = has_single_spaces l.due (drop l.byte-index l.line) ≡ has_single_spaces true l.line
