use Rattle.fbc_lock_table.specs.Effects.{with_waiting}
use Rattle.fbc_lock_table.proofs.InPlace.{map_step}
use Rattle.fbc_lock_table.proofs.requests.set_waiting.Goals as goal

pub loop-request-preserved : goal.loop-request-preserved
loop-request-preserved c =
    map_step (with_waiting c.args.owner c.args.resource c.args.level) _ _ _ _ _ c.loop-request-test.true c.loop-request.auto.request-items c.loop-request.invariant c.waiting_at.ensures
