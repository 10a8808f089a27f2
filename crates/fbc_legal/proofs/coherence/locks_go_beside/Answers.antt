use Rattle.fbc_legal.proofs.Told.{beside}
use Rattle.fbc_legal.proofs.coherence.locks_go_beside.Goals as goal

pub returns : goal.returns
returns c = λ shape file history owner other resource legal. beside shape file history legal owner other resource
