use Rattle.fbc_examples.proofs.ChangedRows.{legal_commit}
use Rattle.fbc_examples.proofs.rows.a_row_is_committed.Goals as goal

pub returns : goal.returns
returns c = legal_commit
