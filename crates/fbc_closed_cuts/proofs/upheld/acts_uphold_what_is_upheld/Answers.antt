use Rattle.fbc_closed_cuts.proofs.UpheldActs.{acts-uphold}
use Rattle.fbc_closed_cuts.proofs.upheld.acts_uphold_what_is_upheld.Goals as goal

pub returns : goal.returns
returns c = λ shape file before moment legal plain upheld. acts-uphold shape file before moment legal upheld plain
