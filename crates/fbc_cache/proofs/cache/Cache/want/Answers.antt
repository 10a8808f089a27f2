use Rattle.fbc_cache.specs.Cache.{IsCache}
use Rattle.fbc_buffers.specs.Holding.{AreApart}
use Rattle.fbc_cache.proofs.DueWants.{due-wants}
use Rattle.fbc_cache.proofs.cache.Cache.want.Goals as goal

pub returns-clause-due : goal.returns-clause-due
returns-clause-due c =
    let is : IsCache c.args.self.now = rw (← c.self.view_is) c.self.invariant.2 in
    let apart : AreApart c.args.self.now.held = rw (← c.self.view_is) c.held-held.ensures.holding.once in
    due-wants c.args.self.now c.args.need is c.requires apart c.step_for.result c.step_for.ensures
