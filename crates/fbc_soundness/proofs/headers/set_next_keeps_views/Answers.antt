use Rattle.fbc_soundness.proofs.NextNumbers.{next_kept}
use Rattle.fbc_soundness.proofs.headers.set_next_keeps_views.Goals as goal

pub returns : goal.returns
returns c = λ shape file next past owner page content seen stamps. next_kept shape file past owner page content seen stamps next
