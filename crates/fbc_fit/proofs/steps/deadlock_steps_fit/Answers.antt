use Rattle.fbc_fit.proofs.LocksTaken.{deadlocked}
use Rattle.fbc_fit.proofs.steps.deadlock_steps_fit.Goals as goal

pub returns : goal.returns
returns _ = λ at c later resource level wait word circle. deadlocked at c later resource level wait word circle
