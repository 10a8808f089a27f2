-- A page is written, and its pairs end: it is a cache still.
use Rattle.fbc_cache.proofs.Steps.{cache-written}
use Rattle.fbc_cache.proofs.cache.Cache.take_write.Goals as goal

pub invariant_of-self : goal.invariant_of-self
invariant_of-self c =
    rw c.set_dirty.ensures (rw c.clear.ensures.after (c.self.invariant.0, c.self.invariant.1, cache-written _ c.args.page c.self.invariant.2))
