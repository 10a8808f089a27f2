-- The states of the pages so far.
use Rattle.fbc_kinds.specs.Limits.{tip_numbers}
use Rattle.fbc_tip.proofs.Inventory.{AreStatesTo}
use Rattle.fbc_tip.proofs.inventories.inventory_now.Given as goal

abbrev pub invariant-loop-sequence : goal.invariant-loop-sequence
invariant-loop-sequence l = AreStatesTo l.desk l.sequence (tip_numbers l.desk.cache.shape.size) l.states.items
