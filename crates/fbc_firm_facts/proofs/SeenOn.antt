-- What an owner sees of a row stays through every legal event of another.
use Rattle.std.proofs.Common.{◌≡◌, ◌≢◌, ◌∙◌, ◌∷◌, ◌++◌, ℕ, List, [], ap}
use Rattle.fbc_kinds.specs.declared.commands.Command.{Command}
use Rattle.fbc_kinds.specs.declared.shapes.Shape.{Shape}
use Rattle.fbc_kinds.specs.Machine.{Machine, machine_step, seen_by}
use Rattle.fbc_kinds.specs.Meaning.{meaning_of}
use Rattle.fbc_kinds.specs.View.{View}
use Rattle.fbc_runs.specs.Runs.{MayAllCome, machine_after}
use Rattle.fbc_world.specs.Commands.{commands_at, commands_of}
use Rattle.fbc_world.specs.History.{History, Moment}
use Rattle.fbc_world.specs.World.{world_of}
use Rattle.fbc_legal.specs.Scene.{scene_of}
use Rattle.fbc_simulation.specs.Beside.{machine_of}
use Rattle.fbc_simulation.specs.Simulated.{IsSimulated}
use Rattle.fbc_simulation.proofs.RunsLonger.{machine_after-append}
use Rattle.fbc_firm_facts.proofs.ActorsOf.{actors-own}
use Rattle.fbc_firm_facts.proofs.OthersSeen.{all-leave}

-- Where all of a run may come, its later part may.
later_come : (machine : Machine) (first later : List Command) → MayAllCome machine (first ++ later) → MayAllCome (machine_after machine first) later
later_come machine [] later may = may
later_come machine (asked ∷ first) later may = later_come (machine_step machine asked) first later may.1

pub seen-on : (shape : Shape) (file : View) (before : History) (moment : Moment) (owner relation row : ℕ) → IsSimulated (scene_of shape file before) → IsSimulated (scene_of shape file (moment ∷ before)) → moment.event.actor ≢ owner
    → seen_by (machine_of shape file (moment ∷ before)) owner relation row ≡ seen_by (machine_of shape file before) owner relation row
seen-on shape file before moment owner relation row was is apart =
    let asked : List Command = commands_at shape (world_of shape file before) moment.event.actor moment.event.act moment.landed in
    ap (λ (m : Machine). seen_by m owner relation row) (machine_after-append (meaning_of file) (commands_of shape file before) asked)
    ∙ all-leave (machine_of shape file before) asked moment.event.actor owner relation row was.orderly
    (later_come (meaning_of file) (commands_of shape file before) asked is.comes) (actors-own moment.event.actor shape (world_of shape file before) moment.event.act moment.landed) apart
