use Rattle.fbc_lock_table.specs.Effects.{of_dead}
use Rattle.fbc_lock_table.proofs.InPlace.{map_step}
use Rattle.fbc_lock_table.proofs.requests.mark_dead.Goals as goal

pub loop-request-preserved : goal.loop-request-preserved
loop-request-preserved c =
    map_step (of_dead c.args.owner) _ _ _ _ _ c.loop-request-test.true c.loop-request.auto.request-items c.loop-request.invariant c.dead.ensures
