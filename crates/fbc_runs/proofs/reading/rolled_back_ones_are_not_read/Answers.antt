use Rattle.fbc_runs.proofs.Pushed.{longer_reads, reads_longer}
use Rattle.fbc_runs.proofs.reading.rolled_back_ones_are_not_read.Goals as goal

pub returns-clause-first : goal.returns-clause-first
returns-clause-first c a b x rolled reads = longer_reads a b x rolled reads

pub returns-clause-second : goal.returns-clause-second
returns-clause-second c a b x rolled reads = reads_longer a b x rolled reads
