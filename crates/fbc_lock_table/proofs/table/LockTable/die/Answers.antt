use Rattle.std.proofs.Common.{arith, refl, sym, ◌∙◌}
use Rattle.fbc_lock_table.specs.Effects.{of_dead}
use Rattle.fbc_lock_table.proofs.Fate.{died_is_dead}
use Rattle.fbc_lock_table.proofs.Lawful.{died_lawful}
use Rattle.fbc_lock_table.proofs.Waiters.{waiting-map_same}
use Rattle.fbc_lock_table.proofs.table.LockTable.die.Goals as goal

pub invariant_of-self : goal.invariant_of-self
invariant_of-self c =
    let waiters = waiting-map_same (of_dead c.args.owner) (λ r. refl) c.self.inside.requests.items in
    (rw c.mark_dead.ensures.items (died_lawful _ c.args.owner c.self.invariant.0), omega (arith, c.self.invariant.1), rw c.mark_dead.ensures.items (c.self.invariant.2 ∙ sym waiters))

pub returns-clause-dead : goal.returns-clause-dead
returns-clause-dead c =
    rw c.mark_dead.ensures.items (died_is_dead (record { capacity = c.self.inside.capacity; requests = c.self.inside.requests.items }) c.args.owner)
