use Rattle.fbc_runs.proofs.InFrontOfOpens.{own_in_front}
use Rattle.fbc_runs.proofs.orderly.own_versions_stand_in_front.Goals as goal

pub returns : goal.returns
returns c = λ machine who orderly. own_in_front machine orderly who
