use Rattle.fbc_fit.proofs.LocksTaken.{granted}
use Rattle.fbc_fit.proofs.steps.granted_lock_steps_fit.Goals as goal

pub returns : goal.returns
returns _ = λ at c later resource level wait word. granted at c later resource level wait word
