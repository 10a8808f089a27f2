use Rattle.std.proofs.Common.{◌≡◌, ◌+◌, ◌*◌, ◌<◌, ℕ, length}
use Rattle.std.specs.Prelude.{slice_index}
use Rattle.fbc_kinds.specs.Head.{number_at}
use Rattle.fbc_pages.proofs.numbers.read_numbers.Given as goal

abbrev pub invariant-loop-i : goal.invariant-loop-i
invariant-loop-i l = record {
  count : length l.numbers.items ≡ l.i;
  numbers : (j : ℕ) → j < l.i → slice_index l.numbers.items j ≡ number_at (l.from + 4 * j) (l.from + 4 * j + 4) l.bytes;
}
