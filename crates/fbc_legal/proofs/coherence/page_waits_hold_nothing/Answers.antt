use Rattle.fbc_legal.proofs.Told.{bare}
use Rattle.fbc_legal.proofs.coherence.page_waits_hold_nothing.Goals as goal

pub returns : goal.returns
returns c = λ shape file history owner page wanted legal. bare shape file history legal owner page wanted
