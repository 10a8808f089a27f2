use Rattle.std.proofs.Common.{Some, None, false, true, refl, ◌∙◌}
use Rattle.fbc_world.specs.World.{world_of}
use Rattle.fbc_world.proofs.WorldLaws.{IsReplayed-world}
use Rattle.fbc_fit.proofs.ReadPages.{fits-damaged, fits-read}
use Rattle.fbc_fit.proofs.learning.read_pages_fit.Goals as goal

pub returns-clause-shown : goal.returns-clause-shown
returns-clause-shown _ = λ shape file history owner c page length content landed kept due fits.
    rw due (fits-read shape (world_of shape file history) owner page landed c due fits false (Some content) ((IsReplayed-world shape file history).kept_is page ∙ kept))

pub returns-clause-damaged : goal.returns-clause-damaged
returns-clause-damaged _ = λ shape file history owner c page landed kept due fits.
    fits-damaged shape (world_of shape file history) owner page landed c due fits ((IsReplayed-world shape file history).kept_is page ∙ kept)

pub returns-clause-failed : goal.returns-clause-failed
returns-clause-failed _ = λ shape file history owner c page landed due fits.
    rw due (fits-read shape (world_of shape file history) owner page landed c due fits true None refl)
