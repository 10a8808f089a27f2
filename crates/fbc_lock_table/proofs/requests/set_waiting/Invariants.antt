use Rattle.std.proofs.Common.{◌≡◌, ◌++◌, map, take, drop}
use Rattle.fbc_lock_table.specs.Effects.{with_waiting}
use Rattle.fbc_lock_table.proofs.requests.set_waiting.Given as goal

abbrev pub invariant-loop-request : goal.invariant-loop-request
invariant-loop-request l =
    l.request-items ≡ map (with_waiting l.owner l.resource l.level) (take l.request-index l.initial.request-items) ++ drop l.request-index l.initial.request-items
