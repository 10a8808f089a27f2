use Rattle.fbc_world.specs.World.{world_of}
use Rattle.fbc_legal.proofs.Induction.{IsCoherent-legal}
use Rattle.fbc_firm_facts.proofs.CopiesFirm.{pages-firm}
use Rattle.fbc_firm_facts.proofs.made.copied_pages_make_facts_firm.Goals as goal

pub returns : goal.returns
returns c = λ shape file history owner reads passes legal copied only is cut own.
    pages-firm (world_of shape file history) (IsCoherent-legal shape file history legal) owner cut own reads passes copied only is
