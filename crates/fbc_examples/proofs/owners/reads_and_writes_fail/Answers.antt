use Rattle.fbc_examples.proofs.OwnersGoing.{legal_failed_write, legal_given_up}
use Rattle.fbc_examples.proofs.owners.reads_and_writes_fail.Goals as goal

pub returns-clause-read : goal.returns-clause-read
returns-clause-read c = legal_given_up

pub returns-clause-write : goal.returns-clause-write
returns-clause-write c = legal_failed_write
