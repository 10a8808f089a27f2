use Rattle.fbc_closed_cuts.proofs.HeadersGrow.{headers-grow}
use Rattle.fbc_closed_cuts.proofs.views.headers_grow.Goals as goal

pub returns : goal.returns
returns c = λ shape file history legal. headers-grow shape file history legal
