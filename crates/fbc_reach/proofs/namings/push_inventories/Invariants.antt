use Rattle.std.proofs.Common.{◌≡◌, ◌++◌}
use Rattle.fbc_reach.specs.Walk.{inventories_named}
use Rattle.fbc_reach.proofs.namings.push_inventories.Given as goal

-- The page inventories so far.
abbrev pub invariant-loop-sequence : goal.invariant-loop-sequence
invariant-loop-sequence l = l.namings.items ≡ l.initial.namings.items ++ inventories_named l.size l.sequence
