use Rattle.fbc_soundness.proofs.HeaderEdits.{tip_kept}
use Rattle.fbc_soundness.proofs.headers.add_tip_keeps_views.Goals as goal

pub returns : goal.returns
returns c = λ shape file added past owner page content seen stamps. tip_kept shape file past owner page content seen stamps added
