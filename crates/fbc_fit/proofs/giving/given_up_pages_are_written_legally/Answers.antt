use Rattle.fbc_fit.proofs.GivingUp.{write_guard}
use Rattle.fbc_fit.proofs.giving.given_up_pages_are_written_legally.Goals as goal

pub returns : goal.returns
returns _ = λ shape file history owner c page next cause level legal is fits. write_guard shape file history owner c legal is fits page next cause level
