use Rattle.fbc_runs.proofs.BeginsRead.{begun_reads}
use Rattle.fbc_runs.proofs.reading.begins_keep_reading.Goals as goal

pub returns : goal.returns
returns c a b after_a after_b who t u reads first second same own lacks also = begun_reads a b after_a after_b who t u reads first second same own lacks also
