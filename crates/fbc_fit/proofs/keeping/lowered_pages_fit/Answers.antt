use Rattle.fbc_world.specs.World.{world_of}
use Rattle.fbc_legal.proofs.Induction.{requests_true}
use Rattle.fbc_fit.proofs.Idle.{due-idle}
use Rattle.fbc_fit.proofs.Lowered.{fits-lowered}
use Rattle.fbc_fit.proofs.keeping.lowered_pages_fit.Goals as goal

pub returns : goal.returns
returns _ = λ shape file history owner page level landed c due fits.
    rw due (fits-lowered shape (world_of shape file history) owner page landed c (due-idle c page level due) (requests_true shape file history).apart fits level)
