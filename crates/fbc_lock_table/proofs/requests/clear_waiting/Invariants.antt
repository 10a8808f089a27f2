use Rattle.std.proofs.Common.{◌≡◌, ◌++◌, map, take, drop}
use Rattle.fbc_lock_table.specs.Effects.{without_wait}
use Rattle.fbc_lock_table.proofs.requests.clear_waiting.Given as goal

abbrev pub invariant-loop-request : goal.invariant-loop-request
invariant-loop-request l =
    l.request-items ≡ map (without_wait l.owner) (take l.request-index l.initial.request-items) ++ drop l.request-index l.initial.request-items
