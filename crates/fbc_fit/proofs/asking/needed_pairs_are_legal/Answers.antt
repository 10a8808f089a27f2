use Rattle.fbc_fit.proofs.OwnPaths.{pair-guard}
use Rattle.fbc_fit.proofs.asking.needed_pairs_are_legal.Goals as goal

pub returns : goal.returns
returns _ = λ shape file history owner c page high. pair-guard shape file history owner c page high
