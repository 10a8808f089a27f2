use Rattle.std.proofs.Common.{arith}
use Rattle.fbc_buffers.proofs.Apart.{IsHolding-push}
use Rattle.fbc_buffers.proofs.holding.Buffers.add.Goals as goal

pub invariant_of-self : goal.invariant_of-self
invariant_of-self c =
    (rw (c.push.ensures.items, c.unwrap.ensures) (IsHolding-push c.args.buffer _ _ (rw (← c.self.view_is) at c.requires.room) (rw (← c.self.view_is) at c.requires.absent) c.self.invariant.0), omega (arith, c.self.invariant.1, c.push.ensures.lower_bound))
