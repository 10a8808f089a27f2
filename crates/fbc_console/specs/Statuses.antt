-- The line that a status writes last, and the number by which the program ends.
use Rattle.std.specs.Prelude.{ℕ, List, [], ◌∷◌, ◌++◌, codes}
use Rattle.fbc_kinds.specs.RuleText.{rule_text}
use Rattle.fbc_script.specs.WhyText.{fault_text}
use Rattle.fbc_console.specs.declared.statuses.Status.{Status}
use Rattle.fbc_console.specs.declared.statuses.Status.TheVariants as status

-- A text as a line of its own.
abbrev pub line_of : List ℕ → List ℕ
line_of text = text ++ 10 ∷ []

-- The last line that a call with this status writes, nothing where it writes none.
abbrev pub status_line : Status → List ℕ
status_line status.Ok = []
status_line status.Usage = line_of (codes "usage")
status_line (status.Script line why) = line_of (codes "script " ++ fault_text (record { line = line; why = why }))
status_line (status.NotOurs rule) = line_of (codes "notours " ++ rule_text rule)
status_line status.Damaged = []
status_line status.DeviceFault = line_of (codes "device")
status_line status.SourceFault = line_of (codes "source")
status_line status.SinkFault = []
status_line status.OutOfMemory = line_of (codes "memory")
status_line status.Occupied = line_of (codes "occupied")
status_line status.SourceLong = line_of (codes "scriptlong")
status_line status.Later = line_of (codes "later")

-- The number by which the program ends.
abbrev pub exit_number : Status → ℕ
exit_number status.Ok = 0
exit_number status.Usage = 1
exit_number (status.Script line why) = 2
exit_number (status.NotOurs rule) = 3
exit_number status.Damaged = 3
exit_number status.DeviceFault = 4
exit_number status.SourceFault = 5
exit_number status.SinkFault = 6
exit_number status.OutOfMemory = 7
exit_number status.Occupied = 8
exit_number status.SourceLong = 10
exit_number status.Later = 11
