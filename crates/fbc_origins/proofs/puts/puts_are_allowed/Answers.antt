use Rattle.fbc_origins.proofs.PutsAllowed.{puts-allowed}
use Rattle.fbc_origins.proofs.puts.puts_are_allowed.Goals as goal

pub returns : goal.returns
returns c = λ at owner page cell content seen stamps order g sees. puts-allowed at order.upheld order.numbered order.original owner page cell content g seen stamps sees
