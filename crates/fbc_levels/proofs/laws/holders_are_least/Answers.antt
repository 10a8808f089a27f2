use Rattle.fbc_levels.proofs.Least.{holder_least}
use Rattle.fbc_levels.proofs.laws.holders_are_least.Goals as goal

pub returns : goal.returns
returns c = holder_least
