use Rattle.fbc_fit.proofs.LocksKnown.{knows-learnt}
use Rattle.fbc_fit.proofs.known.known_locks_are_learnt.Goals as goal

pub returns : goal.returns
returns _ = λ locks owner resource known. knows-learnt locks owner resource known
