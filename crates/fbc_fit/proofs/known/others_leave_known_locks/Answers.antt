use Rattle.fbc_fit.proofs.LocksKnown.{knows-left}
use Rattle.fbc_fit.proofs.known.others_leave_known_locks.Goals as goal

pub returns : goal.returns
returns _ = λ shape file history moment owner resource known. knows-left shape file history moment owner resource known
