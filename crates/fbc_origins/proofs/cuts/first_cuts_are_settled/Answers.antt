use Rattle.fbc_origins.proofs.CutsNext.{first-cuts}
use Rattle.fbc_origins.proofs.cuts.first_cuts_are_settled.Goals as goal

pub returns : goal.returns
returns c = λ shape file. first-cuts shape file
