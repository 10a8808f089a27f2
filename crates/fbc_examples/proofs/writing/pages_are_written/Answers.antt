use Rattle.std.proofs.Common.{refl}
use Rattle.fbc_examples.proofs.CausedWrites.{legal_cycle, legal_detach, legal_eviction, legal_two_readers}
use Rattle.fbc_examples.proofs.writing.pages_are_written.Goals as goal

pub returns-clause-detach : goal.returns-clause-detach
returns-clause-detach c = legal_detach

pub returns-clause-cycle : goal.returns-clause-cycle
returns-clause-cycle c = legal_cycle

pub returns-clause-eviction : goal.returns-clause-eviction
returns-clause-eviction c = legal_eviction

pub returns-clause-callback : goal.returns-clause-callback
returns-clause-callback c = legal_two_readers

pub returns-clause-copy : goal.returns-clause-copy
returns-clause-copy c = refl
