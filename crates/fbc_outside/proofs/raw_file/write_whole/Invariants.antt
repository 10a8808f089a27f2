use Rattle.std.proofs.Common.{◌≤◌, length}
use Rattle.fbc_outside.proofs.RawFileLemmas.{IsWrittenSoFar}
use Rattle.fbc_outside.proofs.raw_file.write_whole.Given as goal

abbrev pub invariant-loop : goal.invariant-loop
invariant-loop g l = record {
  within : l.done ≤ length l.from;
  front : IsWrittenSoFar (g.F.RawFile.bytes l.initial.file) (g.F.RawFile.bytes l.file) l.at l.done l.from;
}
