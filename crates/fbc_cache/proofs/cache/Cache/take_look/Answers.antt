-- What is waited for is granted: it is a cache still.
use Rattle.fbc_cache.proofs.Steps.{cache-granted}
use Rattle.fbc_cache.proofs.cache.Cache.take_look.Goals as goal

pub invariant_of-self : goal.invariant_of-self
invariant_of-self c = rw c.grant_wait.ensures (c.self.invariant.0, c.self.invariant.1, cache-granted _ c.self.invariant.2)
