use Rattle.std.proofs.Common.{◌≡◌, ◌++◌, map, take, drop}
use Rattle.fbc_lock_table.specs.Effects.{of_dead}
use Rattle.fbc_lock_table.proofs.requests.mark_dead.Given as goal

abbrev pub invariant-loop-request : goal.invariant-loop-request
invariant-loop-request l =
    l.request-items ≡ map (of_dead l.owner) (take l.request-index l.initial.request-items) ++ drop l.request-index l.initial.request-items
