use Rattle.std.proofs.Common.{◌≡◌, take, None}
use Rattle.std.specs.List.{find}
use Rattle.fbc_levels.specs.LockState.{is_wait_of}
use Rattle.fbc_region.proofs.asks.waits.Given as goal

abbrev pub invariant-loop-k : goal.invariant-loop-k
invariant-loop-k l = find (is_wait_of l.owner) (take l.k l.table.requests) ≡ None
