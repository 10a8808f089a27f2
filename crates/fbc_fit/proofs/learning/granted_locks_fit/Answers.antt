use Rattle.fbc_world.specs.World.{world_of}
use Rattle.fbc_fit.proofs.GrantedPages.{fits-granted_at_once}
use Rattle.fbc_fit.proofs.learning.granted_locks_fit.Goals as goal

pub returns : goal.returns
returns _ = λ shape file history owner c page level wait first second word legal due fits.
    rw due (fits-granted_at_once shape (world_of shape file history) owner page level wait word first c due fits second legal.0.1.guard.free legal.1.guard.wanted)
