use Rattle.fbc_simulation.proofs.EditFrame.{edit_simulated}
use Rattle.fbc_simulation.proofs.edits.edits_keep_simulation.Goals as goal

pub returns : goal.returns
returns c = edit_simulated
