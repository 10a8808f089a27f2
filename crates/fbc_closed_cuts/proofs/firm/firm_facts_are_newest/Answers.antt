use Rattle.fbc_world.specs.World.{world_of}
use Rattle.fbc_closed_cuts.proofs.Firmness.{firm-newest}
use Rattle.fbc_closed_cuts.proofs.firm.firm_facts_are_newest.Goals as goal

pub returns : goal.returns
returns c = λ shape file history owner passes firm. firm-newest (world_of shape file history) owner passes firm
