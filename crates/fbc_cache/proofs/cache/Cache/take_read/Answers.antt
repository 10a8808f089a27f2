-- A page was read: it is a cache still.
use Rattle.std.proofs.Common.{◌∙◌}
use Rattle.fbc_cache.proofs.Steps.{cache-read}
use Rattle.fbc_cache.proofs.cache.Cache.take_read.Goals as goal

pub invariant_of-self : goal.invariant_of-self
invariant_of-self c =
    rw c.set_copy.ensures (c.self.invariant.0, c.self.invariant.1, cache-read c.args.self.now _ _ (c.self.view_is ∙ c.remember_shown.ensures) c.args.page c.args.shown c.requires.due c.requires.limits c.holds.ensures.holding.once c.self.invariant.2)
