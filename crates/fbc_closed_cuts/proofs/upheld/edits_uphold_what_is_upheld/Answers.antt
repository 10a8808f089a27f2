use Rattle.fbc_closed_cuts.proofs.UpheldLegal.{edit-upholds}
use Rattle.fbc_closed_cuts.proofs.upheld.edits_uphold_what_is_upheld.Goals as goal

pub returns : goal.returns
returns c = λ shape file before owner page edit landed legal upheld owed. edit-upholds shape file before owner page edit landed legal upheld owed
