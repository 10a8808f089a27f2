use Rattle.fbc_numbers.proofs.OpensApart.{apart-step}
use Rattle.fbc_numbers.proofs.opens_apart.events_keep_opens_apart.Goals as goal

pub returns : goal.returns
returns c = λ shape file before moment legal upheld numbered apart. apart-step shape file before moment legal upheld numbered apart
