use Rattle.std.proofs.Common.{◌∙◌, ap, not, arith}
use Rattle.fbc_levels.specs.LockState.{is_of}
use Rattle.fbc_lock_table.specs.Waiters.{waiting_of}
use Rattle.fbc_lock_table.proofs.Lawful.{filter_lawful}
use Rattle.fbc_lock_table.proofs.Waiters.{waiting-filter}
use Rattle.fbc_lock_table.proofs.table.LockTable.remove.Goals as goal

pub invariant_of-self : goal.invariant_of-self
invariant_of-self c =
    (rw c.remove.ensures.items (filter_lawful _ (λ r. not (is_of c.args.owner c.args.resource r)) c.self.invariant.0), omega (arith, c.self.invariant.1), c.waiters_left-self-inside.ensures ∙ ap waiting_of c.deref.ensures.value)

pub waiters_left-self-inside-requires-clause-fewer : goal.waiters_left-self-inside-requires-clause-fewer
waiters_left-self-inside-requires-clause-fewer c =
    rw (c.deref.ensures.value, c.remove.ensures.items, c.self.invariant.2) (waiting-filter (λ r. not (is_of c.args.owner c.args.resource r)) c.self.inside.requests.items)
