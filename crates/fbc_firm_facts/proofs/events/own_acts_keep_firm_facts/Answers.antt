use Rattle.std.proofs.Common.{◌≡◌, true}
use Rattle.fbc_firm_facts.proofs.OwnActs.{own-acts-keep}
use Rattle.fbc_firm_facts.proofs.events.own_acts_keep_firm_facts.Goals as goal

pub returns : goal.returns
returns c = λ shape file before moment passes legal plain lives firm. own-acts-keep shape file before moment legal plain (λ view. passes view ≡ true) lives firm
