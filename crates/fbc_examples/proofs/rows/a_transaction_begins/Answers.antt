use Rattle.fbc_examples.proofs.ChangedRows.{legal_unpinned_header}
use Rattle.fbc_examples.proofs.rows.a_transaction_begins.Goals as goal

pub returns : goal.returns
returns c = legal_unpinned_header
