use Rattle.fbc_world.specs.World.{world_of}
use Rattle.fbc_fit.proofs.OtherActs.{fits-acted}
use Rattle.fbc_fit.proofs.learning.other_acts_leave_the_fit.Goals as goal

pub returns : goal.returns
returns _ = λ shape file history owner c done landed. fits-acted shape (world_of shape file history) owner landed c done
