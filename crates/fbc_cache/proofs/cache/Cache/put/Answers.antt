-- A page has other content: it is a cache still.
use Rattle.std.proofs.Common.{◌∙◌}
use Rattle.fbc_cache.proofs.Editing.{cache-content}
use Rattle.fbc_cache.proofs.cache.Cache.put.Goals as goal

pub invariant_of-self : goal.invariant_of-self
invariant_of-self c =
    rw c.set_dirty.ensures (rw c.set_copy.ensures (c.self.invariant.0, c.self.invariant.1, cache-content c.args.self.now _ _ (c.self.view_is ∙ c.remember.ensures) c.args.page c.args.content c.requires.exclusive c.requires.limits c.holds.ensures.holding.once c.self.invariant.2))
