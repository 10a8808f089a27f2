use Rattle.fbc_world.specs.World.{world_of}
use Rattle.fbc_legal.proofs.Induction.{IsCoherent-legal}
use Rattle.fbc_firm_facts.proofs.CopiesFirm.{rows-firm}
use Rattle.fbc_firm_facts.proofs.made.copied_pages_name_rows_firmly.Goals as goal

pub returns : goal.returns
returns c = λ shape file history owner relation sequence pointer page legal header copied is cut own.
    rows-firm (world_of shape file history) (IsCoherent-legal shape file history legal) owner cut own shape relation sequence pointer page header copied is
