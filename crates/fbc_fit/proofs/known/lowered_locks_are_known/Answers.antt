use Rattle.fbc_fit.proofs.LocksKnown.{knows-lowered, knows-lowered_elsewhere}
use Rattle.fbc_fit.proofs.known.lowered_locks_are_known.Goals as goal

pub returns-clause-own : goal.returns-clause-own
returns-clause-own _ = λ locks owner on before level knows. knows-lowered locks owner on before level knows

pub returns-clause-others : goal.returns-clause-others
returns-clause-others _ = λ locks owner on resource before level known other held knows. knows-lowered_elsewhere locks owner on before level resource known other held knows
