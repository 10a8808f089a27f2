use Rattle.fbc_world.proofs.Granting.{granted-history}
use Rattle.fbc_world.proofs.lock_laws.requests_grant_levels.Goals as goal

pub returns : goal.returns
returns c = λ history owner resource. granted-history owner resource history
