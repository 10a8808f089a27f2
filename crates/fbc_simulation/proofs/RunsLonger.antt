-- Runs of the machine in two parts.
use Rattle.std.proofs.Common.{◌≡◌, List, [], ◌∷◌, ◌++◌, refl}
use Rattle.fbc_kinds.specs.declared.commands.Command.{Command}
use Rattle.fbc_kinds.specs.Machine.{Machine, machine_step}
use Rattle.fbc_runs.specs.Runs.{MayAllCome, machine_after}

pub machine_after-append : (machine : Machine) (first later : List Command) → machine_after machine (first ++ later) ≡ machine_after (machine_after machine first) later
machine_after-append machine [] later = refl
machine_after-append machine (command ∷ first) later = machine_after-append (machine_step machine command) first later

pub may_all_come-append : (machine : Machine) (first later : List Command) → MayAllCome machine first → MayAllCome (machine_after machine first) later → MayAllCome machine (first ++ later)
may_all_come-append machine [] later come come_later = come_later
may_all_come-append machine (command ∷ first) later come come_later = (come.0, may_all_come-append (machine_step machine command) first later come.1 come_later)
