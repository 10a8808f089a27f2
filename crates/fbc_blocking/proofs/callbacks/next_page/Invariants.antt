use Rattle.std.proofs.Common.{◌≡◌, take, None}
use Rattle.std.specs.List.{fold}
use Rattle.fbc_blocking.specs.Callbacks.{with_called}
use Rattle.fbc_blocking.proofs.callbacks.next_page.Given as goal

abbrev pub invariant-loop-k : goal.invariant-loop-k
invariant-loop-k l = l.least ≡ fold (with_called l.table l.owner l.above) None (take l.k l.table.requests)
