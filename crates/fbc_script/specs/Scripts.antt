-- Scripts: which bytes are one, and the first faulty line of those that are none.
use Rattle.std.specs.Prelude.{◌≡◌, ℕ, Bool, ◌+◌, List, [], ◌∷◌, length, Option, Some, None, Result, Ok, Err, if◌then◌else◌}
use Rattle.fbc_script.specs.declared.faults.Why.{Why}
use Rattle.fbc_script.specs.declared.faults.ScriptFault.{ScriptFault}
use Rattle.fbc_script.specs.declared.faults.ParseFault.{ParseFault}
use Rattle.fbc_script.specs.declared.faults.ParseFault.TheVariants as parsing
use Rattle.fbc_script.specs.declared.script.Order.{Order}
use Rattle.fbc_script.specs.declared.script.Line.{Line}
use Rattle.fbc_script.specs.declared.script.Script.{Script}
use Rattle.fbc_script.specs.Pieces.{split_lines, is_passed_over}
use Rattle.fbc_script.specs.Orders.{read_line}

-- A fault of the line with this number, or else those behind it.
abbrev pub fault_at : ℕ → Result Order Why → Option ScriptFault → Option ScriptFault
fault_at number (Err why) later = Some (record { line = number; why = why })
fault_at number (Ok order) later = later

-- The first fault of lines that are counted from this number on.
abbrev pub first_fault : Bool → ℕ → List (List ℕ) → Option ScriptFault
first_fault threads number [] = None
first_fault threads number (line ∷ lines) =
    if is_passed_over line then first_fault threads (number + 1) lines
    else fault_at number (read_line threads line) (first_fault threads (number + 1) lines)

-- The first faulty line of bytes and its cause; none where they spell a script.
abbrev pub first_script_fault : Bool → List ℕ → Option ScriptFault
first_script_fault threads bytes = first_fault threads 1 (split_lines bytes)

-- The line with this number before those behind it.
abbrev pub line_at : ℕ → Result Order Why → List Line → List Line
line_at number (Ok order) later = record { number = number; order = order } ∷ later
line_at number (Err why) later = later

-- The lines that are not passed over, with their numbers, counted from this one on.
abbrev pub kept_lines : Bool → ℕ → List (List ℕ) → List Line
kept_lines threads number [] = []
kept_lines threads number (line ∷ lines) =
    if is_passed_over line then kept_lines threads (number + 1) lines
    else line_at number (read_line threads line) (kept_lines threads (number + 1) lines)

-- The bytes spell this script: no line is faulty, the lines that are not passed over stand in it, and all lines are counted.
pub record IsScript (threads : Bool) (bytes : List ℕ) (script : Script) : Type 0 where
  pub faultless : first_script_fault threads bytes ≡ None
  pub lines : script.lines ≡ kept_lines threads 1 (split_lines bytes)
  pub length : script.length ≡ length (split_lines bytes)

-- A fault of parsing tells the first faulty line and its cause; want of memory tells nothing of the bytes.
abbrev pub TellsFault : Bool → List ℕ → ParseFault → Type 0
TellsFault threads bytes (parsing.Script fault) = first_script_fault threads bytes ≡ Some fault
TellsFault threads bytes parsing.Memory = Unit {0}
