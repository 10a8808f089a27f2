use Rattle.std.proofs.Common.{◌≡◌, ◌+◌, ◌≤◌, length, not, count_by}
use Rattle.fbc_script.specs.Pieces.{split_lines, is_passed_over}
use Rattle.fbc_script.proofs.parsing.count_kept.Given as goal

-- The lines so far and those that are left; each has a byte.
abbrev pub invariant-loop-line : goal.invariant-loop-line
invariant-loop-line l = record {
  counted : l.count + count_by (λ line. not (is_passed_over line)) (split_lines l.rest) ≡ count_by (λ line. not (is_passed_over line)) (split_lines l.bytes);
  fits : l.count + length l.rest ≤ length l.bytes;
}

abbrev pub decreases-loop-line : goal.decreases-loop-line
decreases-loop-line l = length l.rest
