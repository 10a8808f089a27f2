use Rattle.fbc_firm_facts.proofs.OwnSeen.{own-acts-leave}
use Rattle.fbc_firm_facts.proofs.seen.own_acts_leave_the_machine.Goals as goal

pub returns : goal.returns
returns c = λ shape file before moment t legal plain lives open_is unmarked. own-acts-leave shape file before moment t legal plain lives open_is unmarked
