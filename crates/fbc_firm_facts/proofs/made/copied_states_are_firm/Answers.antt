use Rattle.fbc_world.specs.World.{world_of}
use Rattle.fbc_legal.proofs.Induction.{IsCoherent-legal}
use Rattle.fbc_firm_facts.proofs.CopiesFirm.{states-firm}
use Rattle.fbc_firm_facts.proofs.made.copied_states_are_firm.Goals as goal

pub returns : goal.returns
returns c = λ shape file history owner number tip cut legal header copied named own.
    states-firm (world_of shape file history) (IsCoherent-legal shape file history legal) owner cut own number tip header copied named
