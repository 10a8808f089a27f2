use Rattle.fbc_examples.proofs.OwnersComing.{legal_leave, legal_upward_wait}
use Rattle.fbc_examples.proofs.owners.owners_wait.Goals as goal

pub returns-clause-goes : goal.returns-clause-goes
returns-clause-goes c = legal_leave

pub returns-clause-upward : goal.returns-clause-upward
returns-clause-upward c = legal_upward_wait
