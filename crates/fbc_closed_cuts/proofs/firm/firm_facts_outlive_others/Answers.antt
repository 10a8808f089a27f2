use Rattle.fbc_closed_cuts.proofs.Firmness.{firm-stays}
use Rattle.fbc_closed_cuts.proofs.firm.firm_facts_outlive_others.Goals as goal

pub returns : goal.returns
returns c = λ shape file before moment owner passes legal apart plain firm. firm-stays shape file before moment owner legal apart plain passes firm
