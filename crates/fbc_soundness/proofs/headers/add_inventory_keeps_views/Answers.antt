use Rattle.fbc_soundness.proofs.HeaderEdits.{inventory_kept}
use Rattle.fbc_soundness.proofs.headers.add_inventory_keeps_views.Goals as goal

pub returns : goal.returns
returns c = λ shape file past owner page content seen stamps. inventory_kept shape file past owner page content seen stamps
