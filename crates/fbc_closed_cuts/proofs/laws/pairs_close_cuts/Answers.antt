use Rattle.fbc_world.specs.World.{IsPairIn}
use Rattle.fbc_kinds.specs.Order.{straight}
use Rattle.fbc_closed_cuts.proofs.Closing.{closed_way}
use Rattle.fbc_closed_cuts.proofs.laws.pairs_close_cuts.Goals as goal

pub returns-clause-closed : goal.returns-clause-closed
returns-clause-closed c = λ w cut drafted pairs. record { drafted = drafted; closed = λ high low before is_drafted. closed_way (IsPairIn w) cut pairs high low before }

pub returns-clause-pair : goal.returns-clause-pair
returns-clause-pair c = λ w cut high low is pair is_drafted. is.closed high low (straight high low pair) is_drafted
