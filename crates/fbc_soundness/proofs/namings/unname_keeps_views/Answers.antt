use Rattle.fbc_soundness.proofs.PageEdits.{unname_kept}
use Rattle.fbc_soundness.proofs.namings.unname_keeps_views.Goals as goal

pub returns : goal.returns
returns c = λ shape file slot past owner page content seen stamps. unname_kept shape file past owner page content seen stamps slot
