use Rattle.fbc_fit.proofs.WantedLowerings.{wanted_lowering}
use Rattle.fbc_fit.proofs.giving.wanted_lowerings_are_legal.Goals as goal

pub returns : goal.returns
returns _ = λ shape file history owner c need resource level legal is holds fits may. wanted_lowering shape file history owner c legal is fits need holds.once may resource level
