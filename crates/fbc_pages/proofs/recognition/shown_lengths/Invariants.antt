use Rattle.std.proofs.Common.{◌≡◌, ◌<◌, ℕ, Some, length}
use Rattle.std.specs.Prelude.{slice_get}
use Rattle.fbc_kinds.specs.HeaderSpelling.{entry_at, value_length_in}
use Rattle.fbc_pages.proofs.recognition.shown_lengths.Given as goal

abbrev pub invariant-loop-i : goal.invariant-loop-i
invariant-loop-i l = record {
  count : length l.lengths ≡ 8;
  lengths : (j : ℕ) → j < l.i → slice_get l.lengths j ≡ Some (value_length_in (entry_at l.first j));
}
