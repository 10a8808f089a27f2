use Rattle.std.proofs.Common.{ap, is_some, sym}
use Rattle.fbc_levels.specs.LockState.{is_wait_of}
use Rattle.fbc_lock_table.proofs.Finds.{find_here, find_more}
use Rattle.fbc_region.proofs.asks.waits.Goals as goal

pub returns-then-is_wait : goal.returns-then-is_wait
returns-then-is_wait c =
    sym (ap is_some (find_here (is_wait_of c.args.owner) c.args.table.now.requests c.loop-k.k c.request-request.result c.loop-k.invariant c.request-request.ensures.at (sym c.if-is_wait.ensures)))

pub loop-k-preserved : goal.loop-k-preserved
loop-k-preserved c =
    find_more (is_wait_of c.args.owner) c.args.table.now.requests c.loop-k.k c.request-request.result c.loop-k.invariant c.request-request.ensures.at (sym c.if-is_wait.ensures)
