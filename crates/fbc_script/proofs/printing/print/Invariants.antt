use Rattle.std.proofs.Common.{◌≡◌, ◌+◌, ◌-◌, ◌++◌}
use Rattle.fbc_script.specs.Spelling.{lines_text, script_text}
use Rattle.fbc_script.proofs.printing.print.Given as goal

-- The lines so far and those that are left.
abbrev pub invariant-loop-before : goal.invariant-loop-before
invariant-loop-before l = l.text.items ++ lines_text (l.before-end - l.before) (l.before + 1) l.kept ≡ script_text l.script
