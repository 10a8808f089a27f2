-- A page that is in use no more leaves the cache one.
use Rattle.fbc_cache.proofs.Changes.{cache-holds, holds-cache, holds-unpin}
use Rattle.fbc_cache.proofs.cache.Cache.unpin.Goals as goal

pub invariant_of-self : goal.invariant_of-self
invariant_of-self c =
    rw c.set_pinned.ensures (c.self.invariant.0, c.self.invariant.1, cache-holds _ (holds-unpin _ _ _ (holds-cache _ c.self.invariant.2) c.args.page))
