use Rattle.fbc_world.specs.World.{world_of}
use Rattle.fbc_fit.proofs.Written.{fits-written}
use Rattle.fbc_fit.proofs.keeping.written_pages_fit.Goals as goal

pub returns : goal.returns
returns _ = λ shape file history owner page cause landed c due fits. rw due (fits-written shape (world_of shape file history) owner page cause landed c due fits)
