-- One transaction of one attachment over the fresh file: what its steps insert, and what they are answered.
use Rattle.std.specs.Prelude.{◌+◌, ℕ, List, [], ◌∷◌, ◌++◌, ◌≤◌, length, take, reverse, slice_get, Option, codes}
use Rattle.std.specs.Prelude.{Some as found, None as missing}
use Rattle.std.specs.Fmt.{decimal}
use Rattle.fbc_script.specs.declared.single.Step.{Step}
use Rattle.fbc_script.specs.declared.single.Step.TheVariants as step
use Rattle.fbc_console.specs.declared.transaction.Answer.{Answer}
use Rattle.fbc_console.specs.declared.transaction.Answer.TheVariants as answer

-- The values that steps insert, by their rows; the steps stand newest first.
abbrev pub inserted : List Step → List (List ℕ)
inserted [] = []
inserted (step.Insert text ∷ earlier) = inserted earlier ++ text ∷ []
inserted (step.Read row ∷ earlier) = inserted earlier

-- The answer to a read that finds a value, or none.
abbrev pub read_answer : Option (List ℕ) → Answer
read_answer (found value) = answer.Value value
read_answer missing = answer.None

-- A step's answer where these values stand in the rows: an insert takes the next row, and a read gives the value of its row.
abbrev pub answer_to : List (List ℕ) → Step → Answer
answer_to values (step.Insert text) = answer.Row (length values)
answer_to values (step.Read row) = read_answer (slice_get values row)

-- The text of an answer.
abbrev pub answer_text : Answer → List ℕ
answer_text answer.Ok = codes "ok"
answer_text (answer.Value value) = codes "value " ++ value
answer_text answer.None = codes "none"
answer_text (answer.Row row) = codes "row " ++ decimal row
answer_text (answer.Number number) = codes "transaction " ++ decimal number

-- The line that answers the statement on a script's line.
abbrev pub answer_line : ℕ → Answer → List ℕ
answer_line number answer = decimal number ++ codes " a1 " ++ answer_text answer ++ 10 ∷ []

-- The values in the rows after a step.
abbrev pub values_after : List (List ℕ) → Step → List (List ℕ)
values_after values (step.Insert text) = values ++ text ∷ []
values_after values (step.Read row) = values

-- The lines that answer steps; the steps stand newest first, and the first one is on line 3.
abbrev pub step_lines : List Step → List ℕ
step_lines [] = []
step_lines (step ∷ earlier) = step_lines earlier ++ answer_line (length earlier + 3) (answer_to (inserted earlier) step)

-- The lines that answer attach and begin.
abbrev pub opening_lines : List ℕ
opening_lines = answer_line 1 answer.Ok ++ answer_line 2 (answer.Number 1)

-- The lines that answer the statements before commit.
abbrev pub lines_before_commit : List Step → List ℕ
lines_before_commit steps = opening_lines ++ step_lines (reverse steps)

-- The line that answers commit.
abbrev pub commit_line : List Step → List ℕ
commit_line steps = answer_line (length steps + 3) answer.Ok

-- The lines that answer all statements of the transaction.
abbrev pub transcript : List Step → List ℕ
transcript steps = lines_before_commit steps ++ commit_line steps

-- The lines that answer a first part of the statements, commit not among them.
pub data IsTold (steps : List Step) : List ℕ → Type 0 where
  nothing : IsTold steps []
  attached : IsTold steps (answer_line 1 answer.Ok)
  stepped : (count : ℕ) → count ≤ length steps → IsTold steps (lines_before_commit (take count steps))
