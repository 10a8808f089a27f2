use Rattle.fbc_soundness.proofs.PageEdits.{name_kept}
use Rattle.fbc_soundness.proofs.namings.name_keeps_views.Goals as goal

pub returns : goal.returns
returns c = λ shape file slot named past owner page content seen stamps. name_kept shape file past owner page content seen stamps slot named
