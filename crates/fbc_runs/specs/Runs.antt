-- Commands one after the other.
use Rattle.std.specs.Prelude.{Bool, true, false, List, [], ◌∷◌}
use Rattle.fbc_kinds.specs.declared.commands.Command.{Command}
use Rattle.fbc_kinds.specs.declared.commands.Command.TheVariants.{Read, Scan}
use Rattle.fbc_kinds.specs.Machine.{Machine, MayCome, machine_step}

-- The machine after some commands.
abbrev pub machine_after : Machine → List Command → Machine
machine_after machine [] = machine
machine_after machine (command ∷ later) = machine_after (machine_step machine command) later

-- Each of the commands may come at its place.
abbrev pub MayAllCome : Machine → List Command → Type 0
MayAllCome machine [] = Unit {0}
MayAllCome machine (command ∷ later) = MayCome machine command × MayAllCome (machine_step machine command) later

-- Whether a command is no question: it begins or ends a transaction, or changes a row.
abbrev pub is_change : Command → Bool
is_change (Read who relation row) = false
is_change (Scan who relation) = false
is_change _ = true
