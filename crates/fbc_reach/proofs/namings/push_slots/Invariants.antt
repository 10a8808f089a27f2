use Rattle.std.proofs.Common.{◌≡◌, ◌++◌, ◌*◌, take, length, filter}
use Rattle.fbc_reach.specs.declared.namings.Role.TheVariants as role
use Rattle.fbc_reach.specs.Walk.{named_in_row, names_a_page}
use Rattle.fbc_reach.proofs.namings.push_slots.Given as goal

-- The slots so far.
abbrev pub invariant-loop-slot : goal.invariant-loop-slot
invariant-loop-slot l =
    l.namings.items
    ≡ l.initial.namings.items ++ filter names_a_page (named_in_row (role.Data l.relation) (l.fn.sequence * length l.slots) (take l.slot l.slots))
