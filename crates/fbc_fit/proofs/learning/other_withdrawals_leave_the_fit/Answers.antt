use Rattle.fbc_world.specs.World.{world_of}
use Rattle.fbc_legal.proofs.Induction.{requests_true}
use Rattle.fbc_fit.proofs.IdleWithdrawals.{fits-idle}
use Rattle.fbc_fit.proofs.learning.other_withdrawals_leave_the_fit.Goals as goal

pub returns : goal.returns
returns _ = λ shape file history owner c landed none fits. fits-idle shape (world_of shape file history) owner landed c none (requests_true shape file history) fits
