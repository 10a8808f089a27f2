-- The lines that were told before a play ended are a first part of all its lines.
use Rattle.std.proofs.Common.{◌≡◌, ◌+◌, ◌++◌, ℕ, List, [], ◌∷◌, length, take, drop, Option, Ok, Err, inl, inr, refl, ap, sym, subst, ◌∙◌, append_assoc}
use Rattle.std.specs.Prelude.{reverse}
use Rattle.std.proofs.lemmas.List.{append-nil, reverse-append, take-append-drop}
use Rattle.fbc_script.specs.declared.single.Step.{Step}
use Rattle.fbc_console.specs.declared.statuses.Status.TheVariants as status
use Rattle.fbc_console.specs.declared.transaction.Answer.TheVariants as answer
use Rattle.fbc_console.specs.Transaction.{inserted, answer_to, answer_line, step_lines, opening_lines, lines_before_commit, commit_line, transcript, IsTold, nothing, attached, stepped}
use Rattle.fbc_console.specs.Closing.{Outcome}
use Rattle.fbc_console.specs.Ending.{IsTransactionTold}
use Rattle.fbc_console.specs.PlayTheorem.{TellReplies, TellSomeReplies}

-- A text begins with another.
abbrev Begins : List ℕ → List ℕ → Type 0
Begins text first = (rest : List ℕ) × (text ≡ first ++ rest)

longer : (text first more : List ℕ) → Begins text first → Begins (text ++ more) first
longer text first more (rest, is) = (rest ++ more, ap (λ z. z ++ more) is ∙ append_assoc first rest more)

behind : (before text first : List ℕ) → Begins text first → Begins (before ++ text) (before ++ first)
behind before text first (rest, is) = (rest, ap (λ z. before ++ z) is ∙ sym (append_assoc before first rest))

-- Later steps tell their lines behind those of earlier ones.
earlier_first : (later earlier : List Step) → Begins (step_lines (later ++ earlier)) (step_lines earlier)
earlier_first [] earlier = ([], sym (append-nil (step_lines earlier)))
earlier_first (step ∷ later) earlier =
    longer (step_lines (later ++ earlier)) (step_lines earlier) (answer_line (length (later ++ earlier) + 3) (answer_to (inserted (later ++ earlier)) step)) (earlier_first later earlier)

some_steps : (count : ℕ) (steps : List Step) → Begins (step_lines (reverse steps)) (step_lines (reverse (take count steps)))
some_steps count steps =
    let parts : reverse steps ≡ reverse (drop count steps) ++ reverse (take count steps) = ap reverse (sym (take-append-drop count steps)) ∙ reverse-append (take count steps) (drop count steps) in
    subst (λ z. Begins (step_lines z) (step_lines (reverse (take count steps)))) (sym parts) (earlier_first (reverse (drop count steps)) (reverse (take count steps)))

first_lines : (steps : List Step) (told : List ℕ) → IsTold steps told → Begins (transcript steps) told
first_lines steps told nothing = (transcript steps, refl)
first_lines steps told attached =
    longer (lines_before_commit steps) (answer_line 1 answer.Ok) (commit_line steps)
    (longer opening_lines (answer_line 1 answer.Ok) (step_lines (reverse steps)) (answer_line 2 (answer.Number 1), refl))
first_lines steps told (stepped count within) =
    longer (lines_before_commit steps) (lines_before_commit (take count steps)) (commit_line steps)
    (behind opening_lines (step_lines (reverse steps)) (step_lines (reverse (take count steps))) (some_steps count steps))

told_first : (outcome : Outcome) (steps : List Step) (told : List ℕ) (before now : Option (List ℕ)) → IsTransactionTold outcome steps told before now → Begins (transcript steps) told
told_first (Ok done) steps told before now lines = ([], sym lines ∙ sym (append-nil told))
told_first (Err status.DeviceFault) steps told before now lines = (commit_line steps, ap (λ z. z ++ commit_line steps) (sym lines))
told_first (Err status.SinkFault) steps told before now (inl lines) = first_lines steps told lines
told_first (Err status.SinkFault) steps told before now (inr (lines, committed)) = ([], sym lines ∙ sym (append-nil told))
told_first (Err status.OutOfMemory) steps told before now lines = first_lines steps told lines
told_first (Err _) steps told before now lines = let no : ⊥ = lines in absurd no

pub told_some : (outcome : Outcome) (steps : List Step) (told : List ℕ) (before now : Option (List ℕ)) → TellReplies steps (transcript steps) → IsTransactionTold outcome steps told before now → TellSomeReplies steps told
told_some outcome steps told before now replies lines = go (told_first outcome steps told before now lines)
  where
    go : Begins (transcript steps) told → TellSomeReplies steps told
    go (rest, is) = record { rest = rest; replies = subst (TellReplies steps) is replies }
