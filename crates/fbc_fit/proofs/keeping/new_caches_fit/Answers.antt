use Rattle.fbc_fit.proofs.NewCaches.{fits-new}
use Rattle.fbc_fit.proofs.keeping.new_caches_fit.Goals as goal

pub returns : goal.returns
returns _ = λ shape file history owner buffers name landed legal. fits-new shape file history legal.0 owner legal.1.guard.next buffers name landed
