-- The step that serves a callback is due: its page may be given up.
use Rattle.std.proofs.Common.{◌≡◌, true, false, arith}
use Rattle.fbc_cache.specs.Cache.{is_pinned_in, level_in}
use Rattle.fbc_downgrade.specs.Serving.{IsServed, is_above}
use Rattle.fbc_downgrade.proofs.Lowering.{may-give_up}
use Rattle.fbc_downgrade.proofs.serving.serve.Goals as goal

pub returns-clause-due : goal.returns-clause-due
returns-clause-due c keep = c.step_to_give_up.ensures.due (may-give_up c.args.cache.now c.args.callback c.holds.ensures.cache keep served) where
  loose : is_pinned_in c.args.cache.now.held c.args.callback.page ≡ false
  loose = grind (arith, c.pinned.ensures, c.if-pinned.false)

  above : is_above (level_in c.args.cache.now.held c.args.callback.page) c.args.callback.keep ≡ true
  above = grind (arith, c.level.ensures, c.is_above.ensures, c.if-not-is_above.false)

  served : IsServed c.args.cache.now c.args.callback
  served = record { loose = loose; above = above }
