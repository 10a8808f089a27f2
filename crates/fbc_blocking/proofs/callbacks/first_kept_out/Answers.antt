use Rattle.std.proofs.Common.{sym}
use Rattle.fbc_blocking.specs.Callbacks.{is_kept_out}
use Rattle.fbc_lock_table.proofs.Finds.{find_here, find_more}
use Rattle.fbc_blocking.proofs.callbacks.first_kept_out.Goals as goal

pub returns-then-is_kept_out : goal.returns-then-is_kept_out
returns-then-is_kept_out c =
    sym (find_here (is_kept_out c.args.owner c.args.page c.args.held) c.args.table.now.requests c.loop-k.k c.request-request.result c.loop-k.invariant c.request-request.ensures.at (sym c.if-is_kept_out.ensures))

pub loop-k-preserved : goal.loop-k-preserved
loop-k-preserved c =
    find_more (is_kept_out c.args.owner c.args.page c.args.held) c.args.table.now.requests c.loop-k.k c.request-request.result c.loop-k.invariant c.request-request.ensures.at (sym c.if-is_kept_out.ensures)
