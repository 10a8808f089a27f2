use Rattle.fbc_fit.proofs.Left.{fits-left}
use Rattle.fbc_fit.proofs.keeping.others_leave_the_fit.Goals as goal

pub returns : goal.returns
returns _ = λ shape file history moment owner c. fits-left shape file history moment owner c
