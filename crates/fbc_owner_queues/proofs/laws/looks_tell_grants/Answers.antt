use Rattle.fbc_owner_queues.proofs.Settled.{looks_tell}
use Rattle.fbc_owner_queues.proofs.laws.looks_tell_grants.Goals as goal

pub returns : goal.returns
returns c = looks_tell
