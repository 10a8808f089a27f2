use Rattle.fbc_kinds.specs.Edits.{IsWithinLimits}
use Rattle.fbc_benchmarks.proofs.files.tip_page.Given as goal

-- The page so far is within its limits.
abbrev pub invariant-loop-number : goal.invariant-loop-number
invariant-loop-number l = IsWithinLimits l.plan.shape l.page
