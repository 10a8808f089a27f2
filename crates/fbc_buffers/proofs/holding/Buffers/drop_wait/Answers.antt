use Rattle.std.proofs.Common.{not, arith}
use Rattle.fbc_buffers.specs.Holding.{is_waiting}
use Rattle.fbc_buffers.proofs.Apart.{IsHolding-filter}
use Rattle.fbc_buffers.proofs.holding.Buffers.drop_wait.Goals as goal

pub invariant_of-self : goal.invariant_of-self
invariant_of-self c =
    (rw c.remove_waiting.ensures.items (IsHolding-filter (λ b. not (is_waiting b)) _ _ c.self.invariant.0), omega (arith, c.self.invariant.1, c.remove_waiting.ensures.capacity))
