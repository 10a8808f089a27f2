use Rattle.std.proofs.Common.{◌≡◌, ◌-◌, true, length}
use Rattle.fbc_region.specs.Shared.{HasReserved}
use Rattle.fbc_world.specs.History.{recorded}
use Rattle.fbc_world.specs.Owners.{is_alive}
use Rattle.fbc_step_benchmarks.proofs.idle.take_idle_steps.Given as goal

abbrev pub invariant-loop : goal.invariant-loop
invariant-loop l =
    (is_alive (recorded l.region.journal) l.owner ≡ true) × HasReserved l.region.journal (l.count - l.counter) × (length l.image ≡ l.region.size)
