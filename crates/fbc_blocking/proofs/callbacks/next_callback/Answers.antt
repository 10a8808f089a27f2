use Rattle.std.proofs.Common.{◌∙◌, sym}
use Rattle.fbc_blocking.proofs.Idle.{none_waits}
use Rattle.fbc_blocking.proofs.callbacks.next_callback.Goals as goal

pub returns-then-waiters-eq0 : goal.returns-then-waiters-eq0
returns-then-waiters-eq0 c =
    none_waits c.args.table.now c.args.owner c.args.above (sym c.waiters.ensures ∙ c.if-waiters-eq0.true)
