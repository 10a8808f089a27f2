use Rattle.fbc_simulation.proofs.PlainMeant.{plain_meant}
use Rattle.fbc_simulation.proofs.edits.plain_edits_are_meant.Goals as goal

pub returns : goal.returns
returns c = plain_meant
