use Rattle.fbc_world.specs.Locks.{locks_of}
use Rattle.fbc_world.proofs.Apart.{apart-history}
use Rattle.fbc_fit.proofs.LocksWithdrawn.{knows-unwithdrawn, knows-withdrawn}
use Rattle.fbc_fit.proofs.known.withdrawn_locks_are_known.Goals as goal

pub returns-clause-own : goal.returns-clause-own
returns-clause-own _ = λ history owner wait known found knows. knows-withdrawn (locks_of history) owner (apart-history history) wait known found knows

pub returns-clause-others : goal.returns-clause-others
returns-clause-others _ = λ history owner resource known idle knows. knows-unwithdrawn (locks_of history) owner (apart-history history) resource known idle knows
