-- The machine of one transaction: its state after each step, its replies, and the lines that tell them.
use Rattle.std.proofs.Common.{◌≡◌, ◌+◌, ◌++◌, ℕ, zero, suc, List, [], ◌∷◌, length, slice_get, Bool, true, false, Some, None, refl, ap, sym, subst, ◌∙◌, append_assoc, length-append, arith}
use Rattle.std.specs.Prelude.{◌==◌, ◌&&◌, if◌then◌else◌, Option, map, fold, reverse}
use Rattle.std.proofs.lemmas.Bool.Decides.{nat_tests}
use Rattle.std.proofs.lemmas.List.{append-nil, reverse-append}
use Rattle.std.proofs.lemmas.Option.{slice_get_past}
use Rattle.fbc_kinds.specs.declared.commands.Command.{Command}
use Rattle.fbc_kinds.specs.declared.commands.Command.TheVariants as command
use Rattle.fbc_kinds.specs.declared.replies.Reply.{Reply}
use Rattle.fbc_kinds.specs.declared.snapshots.Standing.{Standing}
use Rattle.fbc_kinds.specs.declared.snapshots.Standing.TheVariants as standing
use Rattle.fbc_kinds.specs.declared.snapshots.Transaction.{Transaction}
use Rattle.fbc_kinds.specs.Machine.{Machine, Made, IsRun, IsReply, MayCome, empty, machine_step}
use Rattle.fbc_script.specs.declared.single.Step.{Step}
use Rattle.fbc_script.specs.declared.single.Step.TheVariants as step
use Rattle.fbc_console.specs.declared.transaction.Answer.{Answer}
use Rattle.fbc_console.specs.declared.transaction.Answer.TheVariants as answer
use Rattle.fbc_console.specs.Transaction.{inserted, answer_to, read_answer, values_after, answer_line, step_lines, transcript}
use Rattle.fbc_console.specs.PlayTheorem.{commands_after, commands_of, machine_of, reply_of, answer_lines, TellReplies}

-- The version that stands where a value was inserted.
abbrev pub made_in : Option (List ℕ) → List Made
made_in None = []
made_in (Some value) = record { maker = 0; value = Some value } ∷ []

-- Relation 0 has these values in its rows, and each other relation has nothing.
abbrev pub rows_of : List (List ℕ) → ℕ → ℕ → List Made
rows_of values zero row = made_in (slice_get values row)
rows_of values (suc relation) row = []

-- The transaction of attachment 1.
abbrev pub transaction_in : Standing → Transaction
transaction_in now = record { number = 1; owner = 1; standing = now; snapshot = 1 ∷ [] }

-- The machine of that transaction alone.
abbrev pub machine_with : Standing → List (List ℕ) → Machine
machine_with now values = record { rows = rows_of values; transactions = transaction_in now ∷ [] }

-- One value more.
push : (values : List (List ℕ)) (text : List ℕ) (row : ℕ) (here : Bool) → here ≡ (length values == row) → (if here then record { maker = 0; value = Some text } ∷ made_in (slice_get values row) else made_in (slice_get values row)) ≡ made_in (slice_get (values ++ text ∷ []) row)
push [] text zero true is = refl
push [] text zero false is = let no : ⊥ = grind (arith, nat_tests, is) in absurd no
push [] text (suc row) true is = let no : ⊥ = grind (arith, nat_tests, is) in absurd no
push [] text (suc row) false is = refl
push (value ∷ values) text zero true is = let no : ⊥ = grind (arith, nat_tests, is) in absurd no
push (value ∷ values) text zero false is = refl
push (value ∷ values) text (suc row) true is = push values text row true (grind (arith, nat_tests, is))
push (value ∷ values) text (suc row) false is = push values text row false (grind (arith, nat_tests, is))

push-rows : (values : List (List ℕ)) (text : List ℕ) (relation row : ℕ) → (if (0 == relation) && (length values == row) then record { maker = 0; value = Some text } ∷ rows_of values relation row else rows_of values relation row) ≡ rows_of (values ++ text ∷ []) relation row
push-rows values text zero row = push values text row (length values == row) refl
push-rows values text (suc relation) row = grind (arith, nat_tests)

insert-machine : (values : List (List ℕ)) (text : List ℕ) → machine_step (machine_with standing.Open values) (command.Insert 1 0 (length values) text) ≡ machine_with standing.Open (values ++ text ∷ [])
insert-machine values text = λ i. record { rows = λ relation row. push-rows values text relation row i; transactions = transaction_in standing.Open ∷ [] }

empty-rows : (relation row : ℕ) → [] ≡ rows_of [] relation row
empty-rows zero row = refl
empty-rows (suc relation) row = refl

begin-machine : machine_step empty (command.Begin 1 1) ≡ machine_with standing.Open []
begin-machine = λ i. record { rows = λ relation row. empty-rows relation row i; transactions = transaction_in standing.Open ∷ [] }

insert_may_come : (values : List (List ℕ)) (text : List ℕ) → MayCome (machine_with standing.Open values) (command.Insert 1 0 (length values) text)
insert_may_come values text = let past : slice_get values (length values) ≡ None = slice_get_past values (length values) (omega arith) in rw past refl

read_is_reply : (values : List (List ℕ)) (row : ℕ) (found : Option (List ℕ)) → slice_get values row ≡ found → IsReply (machine_with standing.Open values) (command.Read 1 0 row) (reply_of (read_answer found))
read_is_reply values row None is = rw is refl
read_is_reply values row (Some value) is = rw is refl

-- What the steps are answered where these values stand in the rows, and then the commit.
abbrev pub answers_from : List (List ℕ) → List Step → List Answer
answers_from values [] = answer.Ok ∷ []
answers_from values (first ∷ later) = answer_to values first ∷ answers_from (values_after values first) later

-- A run of the machine to where its commands take it.
abbrev Runs : Machine → List Command → List Reply → Type 0
Runs machine asked replies = IsRun machine asked replies (fold machine_step machine asked)

runs : (values : List (List ℕ)) (steps : List Step) → Runs (machine_with standing.Open values) (commands_after (length values) steps) (map reply_of (answers_from values steps))
runs values [] = (refl, refl, refl)
runs values (step.Insert text ∷ later) =
    let more : List (List ℕ) = values ++ text ∷ [] in
    let replies : List Reply = map reply_of (answers_from more later) in
    let rest : Runs (machine_with standing.Open more) (commands_after (length values + 1) later) replies =
    subst (λ n. Runs (machine_with standing.Open more) (commands_after n later) replies) (length-append values (text ∷ [])) (runs more later) in
    (insert_may_come values text, refl, subst (λ machine. Runs machine (commands_after (length values + 1) later) replies) (sym (insert-machine values text)) rest)
runs values (step.Read row ∷ later) = (refl, read_is_reply values row (slice_get values row) refl, runs values later)

run-whole : (steps : List Step) → Runs empty (commands_of steps) (map reply_of (answer.Number 1 ∷ answers_from [] steps))
run-whole steps =
    (refl, refl, subst (λ machine. Runs machine (commands_after 0 steps) (map reply_of (answers_from [] steps))) (sym begin-machine) (runs [] steps))

-- The machine after the steps and the commit.
machine-after : (values : List (List ℕ)) (steps : List Step) → fold machine_step (machine_with standing.Open values) (commands_after (length values) steps) ≡ machine_with standing.Committed (fold values_after values steps)
machine-after values [] = refl
machine-after values (step.Insert text ∷ later) =
    let more : List (List ℕ) = values ++ text ∷ [] in
    ap (λ machine. fold machine_step machine (commands_after (length values + 1) later)) (insert-machine values text)
    ∙ ap (λ n. fold machine_step (machine_with standing.Open more) (commands_after n later)) (sym (length-append values (text ∷ [])))
    ∙ machine-after more later
machine-after values (step.Read row ∷ later) = machine-after values later

next-values : (earlier : List Step) (next : Step) → values_after (inserted earlier) next ≡ inserted (next ∷ earlier)
next-values earlier (step.Insert text) = refl
next-values earlier (step.Read row) = refl

-- The steps behind one another, the newest first.
reverse-cons : (first : Step) (later earlier : List Step) → reverse later ++ first ∷ earlier ≡ reverse (first ∷ later) ++ earlier
reverse-cons first later earlier = sym (append_assoc (reverse later) (first ∷ []) earlier) ∙ ap (λ steps. steps ++ earlier) (sym (reverse-append (first ∷ []) later))

values-inserted : (earlier steps : List Step) → fold values_after (inserted earlier) steps ≡ inserted (reverse steps ++ earlier)
values-inserted earlier [] = refl
values-inserted earlier (first ∷ later) =
    ap (λ values. fold values_after values later) (next-values earlier first) ∙ values-inserted (first ∷ earlier) later ∙ ap inserted (reverse-cons first later earlier)

pub machine-of : (steps : List Step) → machine_of steps ≡ machine_with standing.Committed (inserted (reverse steps))
machine-of steps =
    ap (λ machine. fold machine_step machine (commands_after 0 steps)) begin-machine
    ∙ machine-after [] steps
    ∙ ap (machine_with standing.Committed) (values-inserted [] steps ∙ ap inserted (append-nil (reverse steps)))

-- The lines of the steps and of the commit behind those of the steps before them.
lines-after : (earlier steps : List Step) (lines : ℕ) → lines ≡ length earlier + length steps + 3 → step_lines (reverse steps ++ earlier) ++ answer_line lines answer.Ok ≡ step_lines earlier ++ answer_lines (length earlier + 3) (answers_from (inserted earlier) steps)
lines-after earlier [] lines is =
    let here : lines ≡ length earlier + 3 = omega arith in
    ap (λ n. step_lines earlier ++ answer_line n answer.Ok) here ∙ ap (λ line. step_lines earlier ++ line) (sym (append-nil (answer_line (length earlier + 3) answer.Ok)))
lines-after earlier (first ∷ later) lines is =
    let line : List ℕ = answer_line (length earlier + 3) (answer_to (inserted earlier) first) in
    let next : lines ≡ length (first ∷ earlier) + length later + 3 = omega arith in
    let place : length (first ∷ earlier) + 3 ≡ length earlier + 3 + 1 = omega arith in
    ap (λ steps. step_lines steps ++ answer_line lines answer.Ok) (sym (reverse-cons first later earlier))
    ∙ lines-after (first ∷ earlier) later lines next
    ∙ append_assoc (step_lines earlier) line (answer_lines (length (first ∷ earlier) + 3) (answers_from (inserted (first ∷ earlier)) later))
    ∙ ap (λ n. step_lines earlier ++ (line ++ answer_lines n (answers_from (inserted (first ∷ earlier)) later))) place
    ∙ ap (λ values. step_lines earlier ++ (line ++ answer_lines (length earlier + 3 + 1) (answers_from values later))) (sym (next-values earlier first))

lines-whole : (steps : List Step) → transcript steps ≡ answer_line 1 answer.Ok ++ answer_lines 2 (answer.Number 1 ∷ answers_from [] steps)
lines-whole steps =
    let first : List ℕ = answer_line 1 answer.Ok in
    let second : List ℕ = answer_line 2 (answer.Number 1) in
    let last : List ℕ = answer_line (length steps + 3) answer.Ok in
    let rest : step_lines (reverse steps) ++ last ≡ answer_lines 3 (answers_from [] steps) =
    ap (λ done. step_lines done ++ last) (sym (append-nil (reverse steps))) ∙ lines-after [] steps (length steps + 3) (omega arith) in
    append_assoc (first ++ second) (step_lines (reverse steps)) last
    ∙ append_assoc first second (step_lines (reverse steps) ++ last)
    ∙ ap (λ lines. first ++ (second ++ lines)) rest

pub tell_replies : (steps : List Step) → TellReplies steps (transcript steps)
tell_replies steps = record { answers = answer.Number 1 ∷ answers_from [] steps; run = run-whole steps; lines_are = lines-whole steps }
