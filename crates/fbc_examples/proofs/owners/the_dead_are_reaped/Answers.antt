use Rattle.fbc_examples.proofs.OwnersComing.{legal_reaped_holder, legal_reaped_owner}
use Rattle.fbc_examples.proofs.OwnersGoing.{legal_full_table}
use Rattle.fbc_examples.proofs.owners.the_dead_are_reaped.Goals as goal

pub returns-clause-waits : goal.returns-clause-waits
returns-clause-waits c = legal_reaped_holder

pub returns-clause-asks : goal.returns-clause-asks
returns-clause-asks c = legal_reaped_owner

pub returns-clause-room : goal.returns-clause-room
returns-clause-room c = legal_full_table
