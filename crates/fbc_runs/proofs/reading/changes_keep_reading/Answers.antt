use Rattle.std.proofs.Common.{Some, None}
use Rattle.fbc_runs.proofs.ChangesCome.{change_comes, insertion_comes}
use Rattle.fbc_runs.proofs.ChangesRead.{change_reads, put_reads}
use Rattle.fbc_runs.proofs.reading.changes_keep_reading.Goals as goal

pub returns : goal.returns
returns c a b reads first second = record {
  insert = λ who relation row value may. (insertion_comes a b reads second relation row may, put_reads a b reads who relation row (Some value));
  update = λ who relation row value may. (change_comes a b reads second who relation row may, change_reads a b reads who relation row (Some value));
  delete = λ who relation row may. (change_comes a b reads second who relation row may, change_reads a b reads who relation row None);
}
