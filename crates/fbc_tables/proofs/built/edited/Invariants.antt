use Rattle.fbc_kinds.specs.Edits.{IsWithinLimits}
use Rattle.fbc_tables.proofs.built.edited.Given as goal

-- The page so far is within its limits.
abbrev pub invariant-loop-edit : goal.invariant-loop-edit
invariant-loop-edit l = IsWithinLimits l.shape l.page
