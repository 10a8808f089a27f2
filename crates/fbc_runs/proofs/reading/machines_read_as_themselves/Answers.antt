use Rattle.fbc_runs.proofs.RowReads.{reads_itself}
use Rattle.fbc_runs.proofs.reading.machines_read_as_themselves.Goals as goal

pub returns : goal.returns
returns c a = reads_itself a
