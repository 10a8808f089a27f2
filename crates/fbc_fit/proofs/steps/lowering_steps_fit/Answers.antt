use Rattle.fbc_fit.proofs.StepsTaken.{lowered}
use Rattle.fbc_fit.proofs.steps.lowering_steps_fit.Goals as goal

pub returns : goal.returns
returns _ = λ at c later resource level. lowered at c later resource level
