use Rattle.fbc_runs.proofs.Steps.{run_orderly}
use Rattle.fbc_runs.proofs.orderly.runs_are_orderly.Goals as goal

pub returns : goal.returns
returns c = run_orderly
