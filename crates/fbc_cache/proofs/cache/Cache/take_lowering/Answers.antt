-- A page is given up, or held in a lower level: it is a cache still.
use Rattle.std.proofs.Common.{◌≡◌, false, arith}
use Rattle.fbc_levels.specs.Levels.{is_free}
use Rattle.fbc_cache.proofs.Steps.{cache-given_up, cache-lowered}
use Rattle.fbc_cache.proofs.cache.Cache.take_lowering.Goals as goal

pub invariant_of-self : goal.invariant_of-self
invariant_of-self c =
    rw c.remove.ensures (c.self.invariant.0, c.self.invariant.1, cache-given_up _ c.args.page c.args.level (rw (← c.self.view_is) at c.requires.due) c.self.invariant.2)

pub invariant_of-self-in_default : goal.invariant_of-self-in_default
invariant_of-self-in_default c =
    let held : is_free c.args.level ≡ false = grind (arith, c.in_default.not-Free) in
    rw (c.set_blocking.ensures) (rw c.set_level.ensures (c.self.invariant.0, c.self.invariant.1, cache-lowered _ c.args.page c.args.level held (rw (← c.self.view_is) at c.requires.due) (rw (← c.self.view_is) at c.holds.ensures.holding).once c.self.invariant.2))
