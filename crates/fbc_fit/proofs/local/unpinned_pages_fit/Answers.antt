use Rattle.fbc_world.specs.World.{world_of}
use Rattle.fbc_fit.proofs.PinnedPages.{fits-unpinned}
use Rattle.fbc_fit.proofs.local.unpinned_pages_fit.Goals as goal

pub returns : goal.returns
returns _ = λ shape file history owner c page landed fits. fits-unpinned shape (world_of shape file history) owner page c fits
