use Rattle.std.proofs.Common.{◌≡◌, ◌+◌, ◌*◌, ◌<◌, ℕ, take, drop}
use Rattle.std.specs.Prelude.{slice_index, slice_range}
use Rattle.fbc_kinds.specs.Head.{little_bytes}
use Rattle.fbc_pages.proofs.numbers.write_numbers.Given as goal

abbrev pub invariant-loop-i : goal.invariant-loop-i
invariant-loop-i l = record {
  before : take l.at l.out ≡ take l.at l.initial.out;
  numbers : (j : ℕ) → j < l.i → slice_range l.out (l.at + 4 * j) (l.at + 4 * j + 4) ≡ little_bytes 4 (slice_index l.numbers j);
  after : drop (l.at + 4 * l.count) l.out ≡ drop (l.at + 4 * l.count) l.initial.out;
}
