use Rattle.std.proofs.Common.{◌≡◌, ◌++◌, map, take, drop}
use Rattle.fbc_kinds.specs.Machine.{ended}
use Rattle.fbc_machine.proofs.machine.Machine.end.Given as goal

abbrev pub invariant-loop-transaction : goal.invariant-loop-transaction
invariant-loop-transaction l = l.transaction-items ≡ map (ended l.who l.standing) (take l.transaction-index l.initial.transaction-items) ++ drop l.transaction-index l.initial.transaction-items
