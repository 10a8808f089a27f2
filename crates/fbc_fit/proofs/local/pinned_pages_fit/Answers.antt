use Rattle.fbc_world.specs.World.{world_of}
use Rattle.fbc_fit.proofs.PinnedPages.{fits-pinned}
use Rattle.fbc_fit.proofs.local.pinned_pages_fit.Goals as goal

pub returns : goal.returns
returns _ = λ shape file history owner c page landed fits granted. rw granted (fits-pinned shape (world_of shape file history) owner page c fits granted)
