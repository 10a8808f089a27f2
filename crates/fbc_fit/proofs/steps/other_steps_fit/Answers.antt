use Rattle.fbc_fit.proofs.StepsTaken.{bystander}
use Rattle.fbc_fit.proofs.steps.other_steps_fit.Goals as goal

pub returns : goal.returns
returns _ = λ at c later asked answer. bystander at c later asked answer
