use Rattle.std.proofs.Common.{◌≡◌, ◌++◌, map, take, drop}
use Rattle.fbc_lock_table.specs.Effects.{granting}
use Rattle.fbc_lock_table.proofs.requests.grant_wait.Given as goal

abbrev pub invariant-loop-request : goal.invariant-loop-request
invariant-loop-request l =
    l.request-items ≡ map (granting l.owner l.resource) (take l.request-index l.initial.request-items) ++ drop l.request-index l.initial.request-items
