use Rattle.std.proofs.Common.{◌≡◌, ◌≤◌, length}
use Rattle.fbc_outside.proofs.RawFileLemmas.{ReadsSoFar}
use Rattle.fbc_outside.proofs.raw_file.read_whole.Given as goal

abbrev pub invariant-loop : goal.invariant-loop
invariant-loop g l = record {
  file : g.F.RawFile.bytes l.file ≡ g.F.RawFile.bytes l.initial.file;
  room : length l.into ≡ length l.initial.into;
  within : l.done ≤ length l.into;
  front : ReadsSoFar (g.F.RawFile.bytes l.initial.file) l.at l.done l.into;
}
