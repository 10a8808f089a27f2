-- A mark leaves the cache one.
use Rattle.std.proofs.Common.{true}
use Rattle.fbc_cache.proofs.Changes.{cache-holds, holds-cache, holds-mark}
use Rattle.fbc_cache.proofs.cache.Cache.mark_blocking.Goals as goal

pub invariant_of-self : goal.invariant_of-self
invariant_of-self c =
    rw c.set_blocking.ensures (c.self.invariant.0, c.self.invariant.1, cache-holds _ (holds-mark _ _ _ (holds-cache _ c.self.invariant.2) c.args.callback.page true))
