use Rattle.fbc_legal.proofs.Told.{no_circle}
use Rattle.fbc_legal.proofs.coherence.pairs_form_no_circle.Goals as goal

pub returns : goal.returns
returns c = λ shape file history page legal. no_circle shape file history legal page
