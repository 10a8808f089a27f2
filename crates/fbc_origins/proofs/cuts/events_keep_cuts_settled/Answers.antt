use Rattle.fbc_origins.proofs.CutsNext.{next-cuts}
use Rattle.fbc_origins.proofs.cuts.events_keep_cuts_settled.Goals as goal

pub returns : goal.returns
returns c = λ shape file before moment legal order held. next-cuts shape file before order held moment legal
