use Rattle.fbc_origins.proofs.ClearsAllowed.{clears-allowed}
use Rattle.fbc_origins.proofs.puts.clears_are_allowed.Goals as goal

pub returns : goal.returns
returns c = λ at owner page cell seen stamps order g sees. clears-allowed at order owner page cell g seen stamps sees
