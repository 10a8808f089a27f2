use Rattle.std.proofs.Common.{◌≡◌, ◌++◌, take}
use Rattle.fbc_reach.specs.Walk.{pointers_named}
use Rattle.fbc_reach.proofs.namings.push_relations.Given as goal

-- The relations so far.
abbrev pub invariant-loop-number : goal.invariant-loop-number
invariant-loop-number l = l.namings.items ≡ l.initial.namings.items ++ pointers_named 0 (take l.number l.relations)
