use Rattle.std.proofs.Common.{◌-◌, arith}
use Rattle.fbc_levels.specs.Waits.{waits_for_number}
use Rattle.fbc_owner_queues.specs.Search.{searched}
use Rattle.fbc_owner_queues.proofs.Outcomes.{searched_at, found, ended}
use Rattle.fbc_owner_queues.proofs.search.Search.+search.Goals as goal

pub from-returns-then-step-clause-leaves : goal.from-returns-then-step-clause-leaves
from-returns-then-step-clause-leaves t c =
    let s = c.args.self.now in
    rw (searched_at (waits_for_number s.table.now) s.living.now s.goal c.args.depth c.args.owner c.args.free.now.items (omega arith))
    (found (waits_for_number s.table.now c.args.owner) s.goal (searched (waits_for_number s.table.now) s.living.now s.goal (c.args.depth - 1)) s.living.now c.loop-next.next-index c.loop-next.free.items c.args.free.now.items c.args.path.now.items c.loop-next.path.items c.step.new.path.items c.step.new.free.items c.loop-next-test.true c.loop-next.invariant.0 c.loop-next.invariant.1 c.if-step.ensures.leaves)

pub from-returns-clause-leaves : goal.from-returns-clause-leaves
from-returns-clause-leaves t c =
    let s = c.args.self.now in
    rw (searched_at (waits_for_number s.table.now) s.living.now s.goal c.args.depth c.args.owner c.args.free.now.items (omega arith))
    (ended (waits_for_number s.table.now c.args.owner) s.goal (searched (waits_for_number s.table.now) s.living.now s.goal (c.args.depth - 1)) s.living.now c.loop-next.next-index c.loop-next.free.items c.args.free.now.items c.args.path.now.items c.loop-next.path.items c.loop-next-test.false c.loop-next.invariant.0 c.loop-next.invariant.1)
