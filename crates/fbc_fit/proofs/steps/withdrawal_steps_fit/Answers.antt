use Rattle.fbc_fit.proofs.StepsTaken.{withdrawn}
use Rattle.fbc_fit.proofs.steps.withdrawal_steps_fit.Goals as goal

pub returns : goal.returns
returns _ = λ at c later answer. withdrawn at c later answer
