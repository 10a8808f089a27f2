use Rattle.fbc_kinds.specs.Edits.{IsWithinLimits}
use Rattle.fbc_benchmarks.proofs.files.data_page.Given as goal

-- The page so far is within its limits.
abbrev pub invariant-loop-cell : goal.invariant-loop-cell
invariant-loop-cell l = IsWithinLimits l.plan.shape l.page
