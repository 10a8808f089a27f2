use Rattle.fbc_owner_queues.proofs.Turned.{turns_same, turns_end}
use Rattle.fbc_owner_queues.proofs.laws.grants_in_turn.Goals as goal

pub returns-clause-same : goal.returns-clause-same
returns-clause-same c = turns_same

pub returns-clause-end : goal.returns-clause-end
returns-clause-end c = turns_end
