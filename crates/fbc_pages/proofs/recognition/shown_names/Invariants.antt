use Rattle.std.proofs.Common.{◌≡◌, ◌<◌, ℕ, Some, length}
use Rattle.std.specs.Prelude.{slice_get}
use Rattle.fbc_kinds.specs.HeaderSpelling.{entry_at, name_in}
use Rattle.fbc_pages.proofs.recognition.shown_names.Given as goal

abbrev pub invariant-loop-i : goal.invariant-loop-i
invariant-loop-i l = record {
  count : length l.names ≡ 8;
  names : (j : ℕ) → j < l.i → slice_get l.names j ≡ Some (name_in (entry_at l.first j));
}
