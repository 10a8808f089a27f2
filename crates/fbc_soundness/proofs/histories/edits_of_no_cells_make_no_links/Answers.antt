use Rattle.fbc_soundness.proofs.NoLinks.{no-links}
use Rattle.fbc_soundness.proofs.histories.edits_of_no_cells_make_no_links.Goals as goal

pub returns : goal.returns
returns c = λ shape file past order. no-links shape file past order
