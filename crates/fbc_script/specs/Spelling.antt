-- How scripts are printed: the one spelling of each line.
use Rattle.std.specs.Prelude.{ℕ, zero, suc, ◌+◌, Bool, true, false, ◌==◌, List, [], ◌∷◌, ◌++◌, codes, if◌then◌else◌}
use Rattle.std.specs.List.{flat_map}
use Rattle.std.specs.Fmt.{decimal}
use Rattle.fbc_levels.specs.Names.{name_of}
use Rattle.fbc_outside.specs.declared.gate.StepName.{StepName}
use Rattle.fbc_outside.specs.declared.gate.StepName.TheVariants as step
use Rattle.fbc_script.specs.declared.script.Statement.{Statement}
use Rattle.fbc_script.specs.declared.script.Statement.TheVariants.{Attach, Begin, Insert, Update, Delete, Read, Scan, Reserve, Sweep, Commit, Rollback, Detach}
use Rattle.fbc_script.specs.declared.script.Order.{Order}
use Rattle.fbc_script.specs.declared.script.Order.TheVariants.{Plain, Post, Step, Run, Kill, Arm, Reopen}
use Rattle.fbc_script.specs.declared.script.Line.{Line}
use Rattle.fbc_script.specs.declared.script.Script.{Script}

-- The word of an attachment: `a` and its number.
abbrev pub attachment_word : ℕ → List ℕ
attachment_word at = 97 ∷ decimal at

abbrev pub mode_word : Bool → List ℕ
mode_word true = codes "wait"
mode_word false = codes "nowait"

abbrev pub step_word : StepName → List ℕ
step_word step.Ask = codes "ask"
step_word step.Look = codes "look"
step_word step.Lower = codes "lower"
step_word step.Read = codes "read"
step_word step.Write = codes "write"
step_word step.Callback = codes "callback"
step_word step.Mark = codes "mark"
step_word step.Poll = codes "poll"
step_word step.Answer = codes "answer"

-- The words of a statement.
abbrev pub statement_words : Statement → List (List ℕ)
statement_words Attach = codes "attach" ∷ []
statement_words (Begin wait) = codes "begin" ∷ mode_word wait ∷ []
statement_words (Insert relation text) = codes "insert" ∷ relation ∷ text ∷ []
statement_words (Update relation row text) = codes "update" ∷ relation ∷ decimal row ∷ text ∷ []
statement_words (Delete relation row) = codes "delete" ∷ relation ∷ decimal row ∷ []
statement_words (Read relation row) = codes "read" ∷ relation ∷ decimal row ∷ []
statement_words (Scan relation) = codes "scan" ∷ relation ∷ []
statement_words (Reserve relation level) = codes "reserve" ∷ relation ∷ name_of level ∷ []
statement_words Sweep = codes "sweep" ∷ []
statement_words Commit = codes "commit" ∷ []
statement_words Rollback = codes "rollback" ∷ []
statement_words Detach = codes "detach" ∷ []

-- The words of a line.
abbrev pub order_words : Order → List (List ℕ)
order_words (Plain at statement) = attachment_word at ∷ statement_words statement
order_words (Post at statement) = codes "post" ∷ attachment_word at ∷ statement_words statement
order_words (Step at count) = codes "step" ∷ attachment_word at ∷ decimal count ∷ []
order_words Run = codes "run" ∷ []
order_words (Kill at) = codes "kill" ∷ attachment_word at ∷ []
order_words (Arm at trap) = codes "trap" ∷ attachment_word at ∷ step_word trap.name ∷ decimal trap.count ∷ []
order_words Reopen = codes "reopen" ∷ []

-- Words behind others, each after a space.
abbrev pub behind_spaces : List (List ℕ) → List ℕ
behind_spaces words = flat_map (λ (word : List ℕ). 32 ∷ word) words

-- Words with single spaces between them.
abbrev pub joined : List (List ℕ) → List ℕ
joined [] = []
joined (word ∷ words) = word ++ behind_spaces words

-- The spelling of a line.
abbrev pub order_text : Order → List ℕ
order_text order = joined (order_words order)

-- The text of the line with this number: it is empty where the next kept line has another number.
abbrev pub text_at : ℕ → List Line → List ℕ
text_at number [] = []
text_at number (line ∷ lines) = if line.number == number then order_text line.order else []

-- The kept lines behind the line with this number.
abbrev pub kept_behind : ℕ → List Line → List Line
kept_behind number [] = []
kept_behind number (line ∷ lines) = if line.number == number then lines else line ∷ lines

-- So many lines, counted from this number on, each with its line feed.
abbrev pub lines_text : ℕ → ℕ → List Line → List ℕ
lines_text zero number kept = []
lines_text (suc more) number kept = text_at number kept ++ 10 ∷ lines_text more (number + 1) (kept_behind number kept)

-- The text of a script: each kept line in its place, and empty lines for those that were passed over.
abbrev pub script_text : Script → List ℕ
script_text script = lines_text script.length 1 script.lines
