use Rattle.fbc_lock_table.proofs.Fate.{dead_fate}
use Rattle.fbc_lock_table.proofs.table.LockTable.first_dead.Goals as goal

pub returns-clause-dead : goal.returns-clause-dead
returns-clause-dead c =
    rw (← c.self.view_is, c.dead_of.ensures, c.deref.ensures.value) (dead_fate _ c.self.invariant.0)
