use Rattle.fbc_soundness.proofs.HeaderEdits.{pointer_kept}
use Rattle.fbc_soundness.proofs.headers.add_pointer_keeps_views.Goals as goal

pub returns : goal.returns
returns c = λ shape file relation added past owner page content seen stamps. pointer_kept shape file past owner page content seen stamps relation added
