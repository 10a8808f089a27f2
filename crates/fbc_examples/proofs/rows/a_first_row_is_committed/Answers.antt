use Rattle.fbc_examples.proofs.FirstRows.{legal_first_commit}
use Rattle.fbc_examples.proofs.rows.a_first_row_is_committed.Goals as goal

pub returns : goal.returns
returns c = legal_first_commit
