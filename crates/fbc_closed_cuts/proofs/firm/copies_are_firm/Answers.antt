use Rattle.fbc_legal.proofs.Induction.{IsCoherent-legal}
use Rattle.fbc_world.specs.World.{world_of}
use Rattle.fbc_closed_cuts.proofs.Firmness.{copy-firm}
use Rattle.fbc_closed_cuts.proofs.firm.copies_are_firm.Goals as goal

pub returns : goal.returns
returns c = λ shape file history owner page content cut legal has own. copy-firm (world_of shape file history) (IsCoherent-legal shape file history legal) owner page content has cut own
