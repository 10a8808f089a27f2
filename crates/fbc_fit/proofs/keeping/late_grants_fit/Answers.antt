use Rattle.fbc_world.specs.World.{world_of}
use Rattle.fbc_fit.proofs.LateGrants.{fits-granted}
use Rattle.fbc_fit.proofs.keeping.late_grants_fit.Goals as goal

pub returns : goal.returns
returns _ = λ shape file history owner page level landed c legal fits. fits-granted shape (world_of shape file history) owner page level landed c legal.1.guard.wanted fits
