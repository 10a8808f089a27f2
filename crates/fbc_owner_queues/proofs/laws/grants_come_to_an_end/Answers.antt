use Rattle.fbc_owner_queues.proofs.Settled.{grants_end}
use Rattle.fbc_owner_queues.proofs.laws.grants_come_to_an_end.Goals as goal

pub returns : goal.returns
returns c = grants_end
