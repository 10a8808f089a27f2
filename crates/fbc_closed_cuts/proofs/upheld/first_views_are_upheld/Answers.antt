use Rattle.fbc_closed_cuts.proofs.UpheldLegal.{first-upheld}
use Rattle.fbc_closed_cuts.proofs.upheld.first_views_are_upheld.Goals as goal

pub returns : goal.returns
returns c = λ shape file of_shape sound. first-upheld shape file of_shape sound
