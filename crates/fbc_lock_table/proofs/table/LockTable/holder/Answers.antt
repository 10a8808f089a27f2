use Rattle.fbc_levels.specs.LockState.{stands_in_way}
use Rattle.fbc_lock_table.proofs.Fate.{holder_fate}
use Rattle.fbc_lock_table.proofs.table.LockTable.holder.Goals as goal

pub returns-clause-dead : goal.returns-clause-dead
returns-clause-dead c =
    rw (← c.self.view_is, c.holder_of.ensures, c.deref.ensures.value)
    (holder_fate _ c.self.invariant.0 (stands_in_way c.args.owner c.args.resource c.args.level))
