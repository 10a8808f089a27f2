use Rattle.std.proofs.Common.{refl, arith}
use Rattle.fbc_buffers.specs.Holding.{granted_wait}
use Rattle.fbc_buffers.proofs.Apart.{IsHolding-map}
use Rattle.fbc_buffers.proofs.holding.Buffers.grant_wait.Goals as goal

pub invariant_of-self : goal.invariant_of-self
invariant_of-self c =
    (rw c.grant_all.ensures.items (IsHolding-map granted_wait (λ b. refl) _ _ c.self.invariant.0), omega (arith, c.self.invariant.1, c.grant_all.ensures.capacity))
