use Rattle.fbc_fit.proofs.LocksTaken.{queued}
use Rattle.fbc_fit.proofs.steps.queued_lock_steps_fit.Goals as goal

pub returns : goal.returns
returns _ = λ at c later resource level wait word. queued at c later resource level wait word
