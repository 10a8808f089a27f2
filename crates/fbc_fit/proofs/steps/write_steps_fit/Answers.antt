use Rattle.fbc_fit.proofs.StepsTaken.{written}
use Rattle.fbc_fit.proofs.steps.write_steps_fit.Goals as goal

pub returns : goal.returns
returns _ = λ at c later page cause. written at c later page cause
