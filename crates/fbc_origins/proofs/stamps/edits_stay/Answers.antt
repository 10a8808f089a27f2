use Rattle.fbc_origins.proofs.EditsKept.{edits-stay}
use Rattle.fbc_origins.proofs.stamps.edits_stay.Goals as goal

pub returns : goal.returns
returns c = λ shape file history legal. edits-stay shape file history legal
