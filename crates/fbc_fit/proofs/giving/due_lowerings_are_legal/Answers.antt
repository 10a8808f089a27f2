use Rattle.fbc_fit.proofs.DueLowerings.{due_guard}
use Rattle.fbc_fit.proofs.giving.due_lowerings_are_legal.Goals as goal

pub returns : goal.returns
returns _ = λ shape file history owner c page level legal is fits. due_guard shape file history owner c legal is fits page level
