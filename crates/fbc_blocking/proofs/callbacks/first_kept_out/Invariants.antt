use Rattle.std.proofs.Common.{◌≡◌, take, None}
use Rattle.std.specs.List.{find}
use Rattle.fbc_blocking.specs.Callbacks.{is_kept_out}
use Rattle.fbc_blocking.proofs.callbacks.first_kept_out.Given as goal

abbrev pub invariant-loop-k : goal.invariant-loop-k
invariant-loop-k l = find (is_kept_out l.owner l.page l.held) (take l.k l.table.requests) ≡ None
