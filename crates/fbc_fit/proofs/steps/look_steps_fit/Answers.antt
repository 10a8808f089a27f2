use Rattle.fbc_fit.proofs.StepsTaken.{looked_at}
use Rattle.fbc_fit.proofs.steps.look_steps_fit.Goals as goal

pub returns : goal.returns
returns _ = λ at c later answer. looked_at at c later answer
