use Rattle.fbc_runs.proofs.Gained.{begun_gained}
use Rattle.fbc_runs.proofs.ended.begun_owners_are_gained.Goals as goal

pub returns : goal.returns
returns c living commits m who number there none lives = begun_gained living commits m who number none lives there
