use Rattle.fbc_downgrade.proofs.AfterLowering.{done-after}
use Rattle.fbc_downgrade.proofs.Ended.{ends-lowering}
use Rattle.fbc_downgrade.proofs.laws.servings_end_with_the_lowering.Goals as goal

pub returns-clause-goes_on : goal.returns-clause-goes_on
returns-clause-goes_on k = ends-lowering

pub returns-clause-done : goal.returns-clause-done
returns-clause-done k = λ c callback serving is keep serves further. done-after c callback is keep serves serving further
