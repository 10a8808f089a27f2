use Rattle.std.specs.Prelude.{◌≡◌, ◌-◌, ◌%◌, length}
use Rattle.fbc_region.specs.Shared.{HasReserved}
use Rattle.fbc_step_benchmarks.specs.Steps.{IsReadyFor}
use Rattle.fbc_step_benchmarks.proofs.steps.take_steps.Given as goal

abbrev pub invariant-loop-turn : goal.invariant-loop-turn
invariant-loop-turn l = IsReadyFor (l.turn % 3) l.region.journal × HasReserved l.region.journal (l.count - l.turn) × (length l.image ≡ l.region.size)
