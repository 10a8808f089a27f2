use Rattle.fbc_soundness.proofs.PageEdits.{take_kept}
use Rattle.fbc_soundness.proofs.inventories.take_page_keeps_views.Goals as goal

pub returns : goal.returns
returns c = λ shape file taken past owner page content seen stamps. take_kept shape file past owner page content seen stamps taken
