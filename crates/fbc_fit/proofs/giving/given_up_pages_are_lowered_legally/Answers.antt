use Rattle.fbc_fit.proofs.GivingUp.{lower_guard}
use Rattle.fbc_fit.proofs.giving.given_up_pages_are_lowered_legally.Goals as goal

pub returns : goal.returns
returns _ = λ shape file history owner c page cause level legal is fits may. lower_guard shape file history owner c legal is fits page cause level may
