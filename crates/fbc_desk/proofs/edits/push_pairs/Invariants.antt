-- The pairs so far are events.
use Rattle.std.proofs.Common.{◌≡◌, ◌≤◌, ◌+◌, ◌++◌, take, vec_capacity, vec_len}
use Rattle.fbc_desk.specs.Calls.{befores}
use Rattle.fbc_desk.proofs.edits.push_pairs.Given as goal

abbrev pub invariant-loop-pair : goal.invariant-loop-pair
invariant-loop-pair l = (l.unsent.items ≡ l.initial.unsent.items ++ befores (take l.pair-index l.pairs)) × (vec_capacity l.initial.unsent ≤ vec_capacity l.unsent) × (vec_len l.unsent ≡ vec_len l.initial.unsent + l.pair-index)
