use Rattle.fbc_runs.proofs.FileMachines.{file_orderly}
use Rattle.fbc_runs.proofs.orderly.files_mean_orderly_machines.Goals as goal

pub returns : goal.returns
returns c = file_orderly
