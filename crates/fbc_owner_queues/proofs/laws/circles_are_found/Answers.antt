use Rattle.fbc_owner_queues.proofs.Named.{no_path}
use Rattle.fbc_owner_queues.proofs.laws.circles_are_found.Goals as goal

pub returns : goal.returns
returns c = no_path
