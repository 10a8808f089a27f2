use Rattle.fbc_firm_facts.proofs.SeenAlike.{seen-alike}
use Rattle.fbc_firm_facts.proofs.seen.ended_machines_are_seen_alike.Goals as goal

pub returns : goal.returns
returns c = λ living commits machine who relation row orderly lives. seen-alike living commits machine who orderly lives relation row
