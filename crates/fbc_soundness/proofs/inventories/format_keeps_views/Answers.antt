use Rattle.fbc_soundness.proofs.PageEdits.{format_kept}
use Rattle.fbc_soundness.proofs.inventories.format_keeps_views.Goals as goal

pub returns : goal.returns
returns c = λ shape file kind number relation sequence past owner page content seen stamps. format_kept shape file past owner page content seen stamps kind number relation sequence
