use Rattle.fbc_runs.proofs.Endings.{settled_by_orderly}
use Rattle.fbc_runs.proofs.orderly.ended_machines_are_orderly.Goals as goal

pub returns : goal.returns
returns c = settled_by_orderly
