use Rattle.std.proofs.Common.{◌≡◌, ◌++◌, drop}
use Rattle.std.specs.Option.{option_map}
use Rattle.fbc_script.specs.SingleTransaction.{steps_to_commit}
use Rattle.fbc_script.proofs.single.steps_to_commit.Given as goal

-- The steps so far and those that are left.
abbrev pub invariant-loop-at : goal.invariant-loop-at
invariant-loop-at l = option_map (λ later. l.steps ++ later) (steps_to_commit (drop l.at l.lines)) ≡ steps_to_commit l.lines
