use Rattle.std.specs.Prelude.{◌≡◌, ◌+◌, ◌-◌, length}
use Rattle.fbc_region.specs.Shared.{HasReserved}
use Rattle.fbc_step_benchmarks.specs.Steps.{HoldsBelow}
use Rattle.fbc_step_benchmarks.proofs.steps.hold_pages.Given as goal

abbrev pub invariant-loop-held : goal.invariant-loop-held
invariant-loop-held l =
    HoldsBelow (l.held + 1) l.region.journal × HasReserved l.region.journal (l.count - l.held) × (l.region.size ≡ l.initial.region.size) × (length l.image ≡ l.region.size)
