use Rattle.std.proofs.Common.{◌∙◌, ap, arith}
use Rattle.fbc_lock_table.specs.Effects.{granting}
use Rattle.fbc_lock_table.specs.Waiters.{waiting_of}
use Rattle.fbc_lock_table.proofs.Lawful.{wait_granted_lawful}
use Rattle.fbc_lock_table.proofs.Waiters.{waiting-map_fewer, one-granted}
use Rattle.fbc_lock_table.proofs.table.LockTable.grant.Goals as goal

pub invariant_of-self : goal.invariant_of-self
invariant_of-self c =
    (rw c.grant_wait.ensures.items (wait_granted_lawful _ c.args.owner c.args.resource (rw (← c.self.view_is) at c.requires) c.self.invariant.0), omega (arith, c.self.invariant.1), c.waiters_left-self-inside.ensures ∙ ap waiting_of c.deref.ensures.value)

pub waiters_left-self-inside-requires-clause-fewer : goal.waiters_left-self-inside-requires-clause-fewer
waiters_left-self-inside-requires-clause-fewer c =
    rw (c.deref.ensures.value, c.grant_wait.ensures.items, c.self.invariant.2) (waiting-map_fewer (granting c.args.owner c.args.resource) (one-granted c.args.owner c.args.resource) c.self.inside.requests.items)
