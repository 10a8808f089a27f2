use Rattle.fbc_kinds.specs.Edits.{IsWithinLimits}
use Rattle.fbc_tables.proofs.tables.answered.Given as goal

abbrev pub invariant-loop-line : goal.invariant-loop-line
invariant-loop-line l = IsWithinLimits l.shape l.page
