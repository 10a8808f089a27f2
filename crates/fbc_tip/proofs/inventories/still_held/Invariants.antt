-- The pages so far are held.
use Rattle.fbc_tip.specs.Inventories.{AreHeld}
use Rattle.fbc_tip.proofs.inventories.still_held.Given as goal

abbrev pub invariant-loop-sequence : goal.invariant-loop-sequence
invariant-loop-sequence l = AreHeld l.desk l.sequence
