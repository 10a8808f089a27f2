use Rattle.std.proofs.Common.{◌≤◌, ◌-◌, length, vec_len}
use Rattle.fbc_console.specs.Script.{HasRead}
use Rattle.fbc_console.proofs.reading.read_script.Given as goal

abbrev pub invariant-loop-text : goal.invariant-loop-text
invariant-loop-text g l =
    (HasRead (g.S.Source.left l.initial.script) (g.S.Source.left l.script) l.text.items)
    × (length l.text.items ≤ 4194305)
    × (g.S.Source.faults l.initial.script ≤ g.S.Source.faults l.script)

abbrev pub decreases-loop-text : goal.decreases-loop-text
decreases-loop-text g l = 4194305 - vec_len l.text
