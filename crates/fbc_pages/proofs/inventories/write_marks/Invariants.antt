use Rattle.std.proofs.Common.{◌≡◌, ◌+◌, ◌<◌, ℕ, take, get_or}
use Rattle.fbc_kinds.specs.InventorySpelling.{marks_byte}
use Rattle.fbc_pages.proofs.inventories.write_marks.Given as goal

abbrev pub invariant-loop-k : goal.invariant-loop-k
invariant-loop-k l = record {
  head : take 16 l.out ≡ take 16 l.initial.out;
  marks : (j : ℕ) → j < l.k → get_or l.out (16 + j) 0 ≡ marks_byte l.taken j;
}
