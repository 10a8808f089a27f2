use Rattle.fbc_kinds.specs.Edits.{IsWithinLimits}
use Rattle.fbc_benchmarks.proofs.files.pointer_page.Given as goal

-- The page so far is within its limits.
abbrev pub invariant-loop-slot : goal.invariant-loop-slot
invariant-loop-slot l = IsWithinLimits l.plan.shape l.page
