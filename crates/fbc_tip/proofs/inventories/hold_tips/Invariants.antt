-- The pages so far are held.
use Rattle.fbc_tip.proofs.Inventory.{HasHeld}
use Rattle.fbc_tip.proofs.inventories.hold_tips.Given as goal

abbrev pub invariant-loop-sequence : goal.invariant-loop-sequence
invariant-loop-sequence l = HasHeld l.initial.desk l.initial.sequence l.desk l.part.held l.sequence
