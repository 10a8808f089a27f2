-- A page that is held is pinned, and is the last one used: it is a cache still.
use Rattle.std.proofs.Common.{◌≡◌, ◌∙◌, sym, true}
use Rattle.fbc_cache.specs.Cache.{is_granted_in}
use Rattle.fbc_cache.proofs.Steps.{cache-pinned}
use Rattle.fbc_cache.proofs.cache.Cache.pin.Goals as goal

pub invariant_of-self : goal.invariant_of-self
invariant_of-self c =
    let granted : is_granted_in c.args.self.now.held c.args.page ≡ true = sym c.is_granted.ensures ∙ c.if-is_granted.true in
    rw c.touch.ensures (rw c.set_pinned.ensures (c.self.invariant.0, c.self.invariant.1, cache-pinned _ c.args.page (rw (← c.self.view_is) at granted) (rw (← c.self.view_is) at c.holds.ensures.holding).once c.self.invariant.2))
