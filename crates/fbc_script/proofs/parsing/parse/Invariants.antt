use Rattle.std.proofs.Common.{◌≡◌, ◌+◌, ◌≤◌, ◌++◌, length}
use Rattle.fbc_script.specs.Pieces.{split_lines}
use Rattle.fbc_script.specs.Scripts.{first_fault, kept_lines}
use Rattle.fbc_script.proofs.parsing.parse.Given as goal

-- The lines so far and those that are left are all lines; each has a byte.
abbrev pub invariant-loop-line : goal.invariant-loop-line
invariant-loop-line l = record {
  kept : l.lines ++ kept_lines l.threads (l.number + 1) (split_lines l.rest) ≡ kept_lines l.threads 1 (split_lines l.bytes);
  fault : first_fault l.threads (l.number + 1) (split_lines l.rest) ≡ first_fault l.threads 1 (split_lines l.bytes);
  counted : l.number + length (split_lines l.rest) ≡ length (split_lines l.bytes);
  fits : l.number + length l.rest ≤ length l.bytes;
}

abbrev pub decreases-loop-line : goal.decreases-loop-line
decreases-loop-line l = length l.rest
