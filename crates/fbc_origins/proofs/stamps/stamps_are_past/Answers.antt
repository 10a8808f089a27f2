use Rattle.fbc_origins.proofs.PastStamps.{stamps-past}
use Rattle.fbc_origins.proofs.stamps.stamps_are_past.Goals as goal

pub returns : goal.returns
returns c = λ shape file history. stamps-past shape file history
