use Rattle.fbc_fit.proofs.LocksKnown.{knows-granted}
use Rattle.fbc_fit.proofs.known.late_grants_leave_known_locks.Goals as goal

pub returns : goal.returns
returns _ = λ locks owner on resource level known wanted. knows-granted locks owner on level wanted resource known
