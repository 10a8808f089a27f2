use Rattle.fbc_world.specs.World.{world_of}
use Rattle.fbc_fit.proofs.MarkedPages.{fits-marked}
use Rattle.fbc_fit.proofs.UsedPages.{fits-used}
use Rattle.fbc_fit.proofs.local.uses_and_marks_are_no_events.Goals as goal

pub returns-clause-used : goal.returns-clause-used
returns-clause-used _ = λ shape file history owner c page fits pin. fits-used shape (world_of shape file history) owner page c fits pin

pub returns-clause-marked : goal.returns-clause-marked
returns-clause-marked _ = λ shape file history owner c page fits. fits-marked shape (world_of shape file history) owner page c fits
