use Rattle.std.proofs.Common.{◌∙◌, ap, not, arith, refl, sym}
use Rattle.fbc_levels.specs.LockState.{is_of}
use Rattle.fbc_lock_table.specs.Effects.{with_granted}
use Rattle.fbc_lock_table.specs.Waiters.{waiting_of}
use Rattle.fbc_lock_table.proofs.Lawful.{filter_lawful, lowered_lawful}
use Rattle.fbc_lock_table.proofs.Waiters.{waiting-filter, waiting-map_same}
use Rattle.fbc_lock_table.proofs.table.LockTable.lower.Goals as goal

pub invariant_of-self : goal.invariant_of-self
invariant_of-self c =
    (rw c.remove.ensures.items (filter_lawful _ (λ r. not (is_of c.args.owner c.args.resource r)) c.self.invariant.0), omega (arith, c.self.invariant.1), c.waiters_left-self-inside.ensures ∙ ap waiting_of c.deref.ensures.value)

pub invariant_of-self-else-eq : goal.invariant_of-self-else-eq
invariant_of-self-else-eq c =
    let waiters = waiting-map_same (with_granted c.args.owner c.args.resource c.args.level) (λ r. refl) c.self.inside.requests.items in
    (rw c.set_granted.ensures.items (lowered_lawful _ c.args.owner c.args.resource c.args.level (rw (← c.self.view_is) at c.requires) c.self.invariant.0), omega (arith, c.self.invariant.1), rw c.set_granted.ensures.items (c.self.invariant.2 ∙ sym waiters))

pub waiters_left-self-inside-requires-clause-fewer : goal.waiters_left-self-inside-requires-clause-fewer
waiters_left-self-inside-requires-clause-fewer c =
    rw (c.deref.ensures.value, c.remove.ensures.items, c.self.invariant.2) (waiting-filter (λ r. not (is_of c.args.owner c.args.resource r)) c.self.inside.requests.items)
