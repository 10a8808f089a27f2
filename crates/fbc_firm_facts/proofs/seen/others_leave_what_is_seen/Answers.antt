use Rattle.fbc_firm_facts.proofs.OthersSeen.{others-leave}
use Rattle.fbc_firm_facts.proofs.seen.others_leave_what_is_seen.Goals as goal

pub returns : goal.returns
returns c = λ machine asked who relation row orderly may apart. others-leave machine who relation row orderly asked may apart
