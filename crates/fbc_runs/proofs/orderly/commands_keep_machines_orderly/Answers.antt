use Rattle.fbc_runs.proofs.Steps.{step_orderly}
use Rattle.fbc_runs.proofs.orderly.commands_keep_machines_orderly.Goals as goal

pub returns : goal.returns
returns c = λ machine command orderly may. step_orderly machine orderly command may
