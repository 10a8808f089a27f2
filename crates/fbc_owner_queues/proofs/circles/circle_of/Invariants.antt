use Rattle.std.proofs.Common.{◌≡◌, ◌∷◌, take}
use Rattle.fbc_owner_queues.proofs.circles.circle_of.Given as goal

abbrev pub invariant-loop-other : goal.invariant-loop-other
invariant-loop-other l = l.owners.items ≡ l.owner ∷ take l.other-index l.others
