use Rattle.fbc_lock_table.proofs.Lawful.{only_request}
use Rattle.fbc_lock_table.proofs.table.LockTable.request.Goals as goal

pub returns-clause-only : goal.returns-clause-only
returns-clause-only c =
    rw (← c.self.view_is) (only_request _ c.args.k c.index.result.now c.self.invariant.0 (rw (← c.self.view_is) at c.requires) c.index.ensures)
