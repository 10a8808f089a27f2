use Rattle.fbc_world.proofs.Apart.{apart-history}
use Rattle.fbc_world.proofs.lock_laws.requests_are_apart.Goals as goal

pub returns : goal.returns
returns c = apart-history
