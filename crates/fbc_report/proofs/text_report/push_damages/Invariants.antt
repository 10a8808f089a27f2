use Rattle.std.proofs.Common.{◌≡◌, ◌++◌, take}
use Rattle.std.specs.List.{flat_map}
use Rattle.fbc_report.specs.Text.{damage_line}
use Rattle.fbc_report.proofs.text_report.push_damages.Given as goal

-- The lines so far.
abbrev pub invariant-loop-page : goal.invariant-loop-page
invariant-loop-page l = l.text.items ≡ l.initial.text.items ++ flat_map damage_line (take l.page-index l.damages)
