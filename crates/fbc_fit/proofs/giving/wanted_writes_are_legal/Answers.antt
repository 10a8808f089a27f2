use Rattle.fbc_fit.proofs.WantedWrites.{wanted_write}
use Rattle.fbc_fit.proofs.giving.wanted_writes_are_legal.Goals as goal

pub returns : goal.returns
returns _ = λ shape file history owner c need next cause legal is fits. wanted_write shape file history owner c legal is fits need next cause
