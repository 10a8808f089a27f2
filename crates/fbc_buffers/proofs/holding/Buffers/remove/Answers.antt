use Rattle.std.proofs.Common.{not, arith}
use Rattle.fbc_buffers.specs.Holding.{is_of}
use Rattle.fbc_buffers.proofs.Apart.{IsHolding-filter}
use Rattle.fbc_buffers.proofs.holding.Buffers.remove.Goals as goal

pub invariant_of-self : goal.invariant_of-self
invariant_of-self c =
    (rw c.remove.ensures.items (IsHolding-filter (λ b. not (is_of c.args.page b)) _ _ c.self.invariant.0), omega (arith, c.self.invariant.1, c.remove.ensures.capacity))
