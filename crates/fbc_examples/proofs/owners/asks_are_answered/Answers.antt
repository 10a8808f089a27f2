use Rattle.std.proofs.Common.{refl}
use Rattle.fbc_examples.proofs.Answering.{legal_busy_ask, legal_circle, legal_full_ask}
use Rattle.fbc_examples.proofs.owners.asks_are_answered.Goals as goal

pub returns-clause-busy : goal.returns-clause-busy
returns-clause-busy c = legal_busy_ask

pub returns-clause-room : goal.returns-clause-room
returns-clause-room c = legal_full_ask

pub returns-clause-circle : goal.returns-clause-circle
returns-clause-circle c = legal_circle

pub returns-clause-no_wait : goal.returns-clause-no_wait
returns-clause-no_wait c = (refl, refl, refl)
