use Rattle.fbc_fit.proofs.LocksKnown.{knows-quiet}
use Rattle.fbc_fit.proofs.known.quiet_acts_leave_known_locks.Goals as goal

pub returns : goal.returns
returns _ = λ locks owner done resource known. knows-quiet locks owner done resource known
