use Rattle.std.proofs.Common.{◌≡◌, ◌+◌, ◌*◌, ◌<◌, ℕ, length, get_or}
use Rattle.fbc_kinds.specs.TipSpelling.{states_byte}
use Rattle.fbc_pages.proofs.tips.read_states.Given as goal

abbrev pub invariant-loop-k : goal.invariant-loop-k
invariant-loop-k l = record {
  count : length l.states.items ≡ 4 * l.k;
  states : (j : ℕ) → j < l.k → get_or l.bytes (16 + j) 0 ≡ states_byte l.states.items j;
}
