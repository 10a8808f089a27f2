-- Nothing is waited for any more: it is a cache still.
use Rattle.fbc_cache.proofs.Steps.{cache-granted, cache-withdrawn}
use Rattle.fbc_cache.proofs.cache.Cache.take_withdrawal.Goals as goal

pub invariant_of-self : goal.invariant_of-self
invariant_of-self c = rw c.drop_wait.ensures (c.self.invariant.0, c.self.invariant.1, cache-withdrawn _ c.self.invariant.2)

pub invariant_of-self-in-Granted : goal.invariant_of-self-in-Granted
invariant_of-self-in-Granted c = rw c.grant_wait.ensures (c.self.invariant.0, c.self.invariant.1, cache-granted _ c.self.invariant.2)
