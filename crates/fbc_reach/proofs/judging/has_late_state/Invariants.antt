use Rattle.std.proofs.Common.{◌≡◌, ◌+◌, drop}
use Rattle.fbc_reach.specs.Roles.{has_late_state}
use Rattle.fbc_reach.proofs.judging.has_late_state.Given as goal

-- The numbers go on, and none so far is late.
abbrev pub invariant-loop-state : goal.invariant-loop-state
invariant-loop-state l = record {
  counted : l.number ≡ l.first + l.state-index;
  others : has_late_state l.next l.first l.states ≡ has_late_state l.next l.number (drop l.state-index l.states);
}
