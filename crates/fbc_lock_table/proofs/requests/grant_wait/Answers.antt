use Rattle.fbc_lock_table.specs.Effects.{granting}
use Rattle.fbc_lock_table.proofs.InPlace.{map_step}
use Rattle.fbc_lock_table.proofs.requests.grant_wait.Goals as goal

pub loop-request-preserved : goal.loop-request-preserved
loop-request-preserved c =
    map_step (granting c.args.owner c.args.resource) _ _ _ _ _ c.loop-request-test.true c.loop-request.auto.request-items c.loop-request.invariant c.granted_wait.ensures
