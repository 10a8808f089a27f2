use Rattle.fbc_soundness.proofs.PageEdits.{free_kept}
use Rattle.fbc_soundness.proofs.inventories.free_page_keeps_views.Goals as goal

pub returns : goal.returns
returns c = λ shape file freed past owner page content seen stamps. free_kept shape file past owner page content seen stamps freed
