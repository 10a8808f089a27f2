-- A lock that was due is granted or waited for: it is a cache still.
use Rattle.fbc_cache.proofs.Steps.{cache-locked, cache-queued, lock-room}
use Rattle.fbc_cache.proofs.cache.Cache.take_lock.Goals as goal

pub add_granted-requires-clause-room : goal.add_granted-requires-clause-room
add_granted-requires-clause-room c = rw (← c.self.view_is) at (lock-room c.args.self.now c.args.page c.args.level c.requires.due c.holds.ensures.holding)

pub invariant_of-self : goal.invariant_of-self
invariant_of-self c =
    rw c.add_granted.ensures (c.self.invariant.0, c.self.invariant.1, cache-locked _ c.args.page c.args.level (rw (← c.self.view_is) at c.requires.due) c.self.invariant.2)

pub add_waiting-requires-clause-room : goal.add_waiting-requires-clause-room
add_waiting-requires-clause-room c = rw (← c.self.view_is) at (lock-room c.args.self.now c.args.page c.args.level c.requires.due c.holds.ensures.holding)

pub invariant_of-self-in-Queued : goal.invariant_of-self-in-Queued
invariant_of-self-in-Queued c =
    rw c.add_waiting.ensures (c.self.invariant.0, c.self.invariant.1, cache-queued _ c.args.page c.args.level (rw (← c.self.view_is) at c.requires.due) c.self.invariant.2)
