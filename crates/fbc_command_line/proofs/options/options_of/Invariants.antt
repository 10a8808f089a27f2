use Rattle.std.proofs.Common.{length, ◌-◌}
use Rattle.fbc_command_line.proofs.EachOption.{IsReadSoFar}
use Rattle.fbc_command_line.proofs.options.options_of.Given as goal

-- The words so far gave these options.
abbrev pub invariant-loop-at : goal.invariant-loop-at
invariant-loop-at l = IsReadSoFar l.table l.words l.at l.given

abbrev pub decreases-loop-at : goal.decreases-loop-at
decreases-loop-at l = length l.words - l.at
