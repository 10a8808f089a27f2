use Rattle.fbc_fit.proofs.LocksTaken.{refused}
use Rattle.fbc_fit.proofs.steps.refused_lock_steps_fit.Goals as goal

pub returns : goal.returns
returns _ = λ at c later resource level wait word answer. refused at c later resource level wait word answer
