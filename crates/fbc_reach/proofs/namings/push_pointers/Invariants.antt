use Rattle.std.proofs.Common.{◌≡◌, ◌++◌, take}
use Rattle.fbc_reach.specs.declared.namings.Role.TheVariants as role
use Rattle.fbc_reach.specs.Walk.{named_in_row}
use Rattle.fbc_reach.proofs.namings.push_pointers.Given as goal

-- The pages so far.
abbrev pub invariant-loop-sequence : goal.invariant-loop-sequence
invariant-loop-sequence l = l.namings.items ≡ l.initial.namings.items ++ named_in_row (role.Pointer l.relation) 0 (take l.sequence l.pointers)
