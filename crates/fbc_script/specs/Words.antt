-- The words of a script's lines that stand for something: attachments, names, texts, levels and steps.
use Rattle.std.specs.Prelude.{ℕ, Bool, true, false, ◌==◌, ◌&&◌, ◌||◌, ◌-◌, nat_le, List, [], ◌∷◌, length, codes, Option, Some, None, Result, Ok, Err, if◌then◌else◌}
use Rattle.std.specs.List.{list_all}
use Rattle.std.specs.Option.{ok_or}
use Rattle.std.specs.Str.{bytes_eq}
use Rattle.fbc_kinds.specs.HeaderSpelling.{is_name}
use Rattle.fbc_levels.specs.declared.levels.Level.{Level}
use Rattle.fbc_levels.specs.declared.levels.Level.TheVariants as level
use Rattle.fbc_outside.specs.declared.gate.StepName.{StepName}
use Rattle.fbc_outside.specs.declared.gate.StepName.TheVariants as step
use Rattle.fbc_script.specs.declared.faults.Why.{Why}
use Rattle.fbc_script.specs.declared.faults.Why.TheVariants as why
use Rattle.fbc_script.specs.Numbers.{is_digit, number_of}

-- The number of an attachment: its name is `a` (97) and a digit from 1 to 8.
abbrev pub attachment_of : List ℕ → Option ℕ
attachment_of (letter ∷ digit ∷ []) =
    if letter == 97 && nat_le 49 digit && nat_le digit 56 then Some (digit - 48) else None
attachment_of _ = None

-- Whether a word is `a` and digits, at least one.
abbrev pub is_numbered : List ℕ → Bool
is_numbered (letter ∷ digit ∷ digits) = letter == 97 && list_all is_digit (digit ∷ digits)
is_numbered _ = false

-- An attachment in its place: another `a` with digits is a fault of its own.
abbrev pub read_attachment : List ℕ → Result ℕ Why
read_attachment word = ok_or (attachment_of word) (if is_numbered word then why.Attachment else why.Word)

-- A relation's name.
abbrev pub read_name : List ℕ → Result (List ℕ) Why
read_name word = if is_name word then Ok word else Err why.Name

-- A text has at most 255 bytes.
abbrev pub read_text : List ℕ → Result (List ℕ) Why
read_text word = if nat_le (length word) 255 then Ok word else Err why.Text

-- A number in this range.
abbrev pub read_number : ℕ → ℕ → List ℕ → Result ℕ Why
read_number least most word = ok_or (number_of least most word) why.Number

-- The rows of a relation.
abbrev pub read_row : List ℕ → Result ℕ Why
read_row word = read_number 0 4294967295 word

-- How many steps.
abbrev pub read_count : List ℕ → Result ℕ Why
read_count word = read_number 1 65535 word

-- Whether a transaction waits.
abbrev pub read_mode : List ℕ → Result Bool Why
read_mode word =
    if bytes_eq word (codes "wait") then Ok true else (
    if bytes_eq word (codes "nowait") then Ok false else Err why.Word)

-- The levels that can be reserved.
abbrev pub read_level : List ℕ → Result Level Why
read_level word =
    if bytes_eq word (codes "SR") then Ok level.Sr else (
    if bytes_eq word (codes "PR") then Ok level.Pr else (
    if bytes_eq word (codes "SW") then Ok level.Sw else (
    if bytes_eq word (codes "PW") then Ok level.Pw else (
    if bytes_eq word (codes "EX") then Ok level.Ex else Err why.Word))))

-- The names of steps.
abbrev pub read_step : List ℕ → Result StepName Why
read_step word =
    if bytes_eq word (codes "ask") then Ok step.Ask else (
    if bytes_eq word (codes "look") then Ok step.Look else (
    if bytes_eq word (codes "lower") then Ok step.Lower else (
    if bytes_eq word (codes "read") then Ok step.Read else (
    if bytes_eq word (codes "write") then Ok step.Write else (
    if bytes_eq word (codes "callback") then Ok step.Callback else (
    if bytes_eq word (codes "mark") then Ok step.Mark else (
    if bytes_eq word (codes "poll") then Ok step.Poll else (
    if bytes_eq word (codes "answer") then Ok step.Answer else Err why.Word))))))))
