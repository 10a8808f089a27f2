use Rattle.fbc_legal.proofs.Told.{copy_newest}
use Rattle.fbc_legal.proofs.coherence.copies_are_newest.Goals as goal

pub returns : goal.returns
returns c = λ shape file history owner page content legal. copy_newest shape file history legal owner page content
