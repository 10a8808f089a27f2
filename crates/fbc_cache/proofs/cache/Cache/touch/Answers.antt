-- A use of a page leaves the cache one.
use Rattle.fbc_cache.proofs.Changes.{cache-holds, holds-cache, holds-touched}
use Rattle.fbc_cache.proofs.cache.Cache.touch.Goals as goal

pub invariant_of-self : goal.invariant_of-self
invariant_of-self c =
    rw c.touch.ensures (c.self.invariant.0, c.self.invariant.1, cache-holds _ (holds-touched _ _ _ (holds-cache _ c.self.invariant.2) c.args.page))
