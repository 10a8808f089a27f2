use Rattle.fbc_world.specs.World.{world_of}
use Rattle.fbc_legal.proofs.Induction.{IsCoherent-legal}
use Rattle.fbc_firm_facts.proofs.CopiesFirm.{headers-firm}
use Rattle.fbc_firm_facts.proofs.made.copied_headers_make_facts_firm.Goals as goal

pub returns : goal.returns
returns c = λ shape file history owner passes legal copied grows is cut own.
    headers-firm (world_of shape file history) (IsCoherent-legal shape file history legal) owner cut own passes copied grows is
