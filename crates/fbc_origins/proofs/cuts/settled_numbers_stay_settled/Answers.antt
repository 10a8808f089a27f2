use Rattle.fbc_origins.proofs.SettledStays.{settled-next}
use Rattle.fbc_origins.proofs.cuts.settled_numbers_stay_settled.Goals as goal

pub returns : goal.returns
returns c = λ shape file before moment number legal order settled. settled-next shape file before order number settled moment legal
