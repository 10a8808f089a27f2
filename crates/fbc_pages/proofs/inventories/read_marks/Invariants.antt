use Rattle.std.proofs.Common.{◌≡◌, ◌+◌, ◌*◌, ◌<◌, ℕ, length, get_or}
use Rattle.fbc_kinds.specs.InventorySpelling.{marks_byte}
use Rattle.fbc_pages.proofs.inventories.read_marks.Given as goal

abbrev pub invariant-loop-k : goal.invariant-loop-k
invariant-loop-k l = record {
  count : length l.taken.items ≡ 8 * l.k;
  marks : (j : ℕ) → j < l.k → get_or l.bytes (16 + j) 0 ≡ marks_byte l.taken.items j;
}
