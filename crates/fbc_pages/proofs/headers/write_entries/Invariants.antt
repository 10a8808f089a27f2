use Rattle.std.proofs.Common.{◌≡◌, ◌<◌, ℕ, take}
use Rattle.std.specs.Prelude.{slice_get}
use Rattle.fbc_kinds.specs.HeaderSpelling.{SpellsEntry, entry_at}
use Rattle.fbc_pages.proofs.headers.write_entries.Given as goal

abbrev pub invariant-loop-i : goal.invariant-loop-i
invariant-loop-i l = record {
  before : take 48 l.out ≡ take 48 l.initial.out;
  entries : (j : ℕ) → j < l.i → SpellsEntry (slice_get l.relations j) (entry_at l.out j);
}
