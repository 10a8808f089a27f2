use Rattle.fbc_legal.proofs.Told.{exclusive_copy}
use Rattle.fbc_legal.proofs.coherence.exclusive_locks_exclude_copies.Goals as goal

pub returns : goal.returns
returns c = λ shape file history owner other page legal. exclusive_copy shape file history legal owner other page
