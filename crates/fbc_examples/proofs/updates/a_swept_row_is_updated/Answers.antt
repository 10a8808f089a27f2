use Rattle.fbc_examples.proofs.UpdatedRows.{legal_next_update, meant_apart}
use Rattle.fbc_examples.proofs.updates.a_swept_row_is_updated.Goals as goal

pub returns-clause-legal : goal.returns-clause-legal
returns-clause-legal c = legal_next_update

pub returns-clause-meant : goal.returns-clause-meant
returns-clause-meant c = meant_apart
