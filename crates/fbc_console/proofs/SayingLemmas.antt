-- What a sink has taken after one text and then another.
use Rattle.std.proofs.Common.{◌≡◌, ◌<◌, ◌≤◌, ◌+◌, inl, inr, ◌++◌, ℕ, List, [], ◌∷◌, length, take, slice_index_or, Ok, Err, true, refl, ap, sym, subst, ◌∙◌, append_assoc, length-append, arith}
use Rattle.std.specs.Prelude.{reverse, count_by, Option, Result, cond}
use Rattle.std.proofs.Math.Seq.{take-append-add, take-length}
use Rattle.std.proofs.lemmas.List.{take-append-le, append-nil, reverse-append}
use Rattle.std.proofs.lemmas.List.Sums.{count_by_more_yes, sum_by-append, sum_by-take-le}
use Rattle.std.proofs.lemmas.Grind.{common_steps}
use Rattle.fbc_outside.specs.Streams.{SinkTakes, SinkTakesSome}
use Rattle.fbc_script.specs.declared.single.Step.{Step}
use Rattle.fbc_script.specs.declared.single.Step.TheVariants as step
use Rattle.fbc_script.specs.SingleTransaction.{is_insert}
use Rattle.fbc_console.specs.declared.statuses.Status.{Status}
use Rattle.fbc_console.specs.declared.statuses.Status.TheVariants as status
use Rattle.fbc_console.specs.declared.transaction.Answer.TheVariants as answer
use Rattle.fbc_console.specs.Transaction.{inserted, answer_to, answer_line, step_lines, opening_lines, lines_before_commit, commit_line, IsTold, nothing, attached, stepped}
use Rattle.fbc_console.specs.Committing.{IsCommitted}
use Rattle.fbc_console.specs.Saying.{IsSaid, IsOpeningSaid, AreStepsSaid, IsFrontSaid, IsTransactionSaid, IsCommitSaid}

-- One text and then another.
pub takes_both : (a b c : List ℕ → Type 0) (x y : List ℕ) → SinkTakes a b x → SinkTakes b c y → SinkTakes a c (x ++ y)
takes_both a b c x y first next text had = subst c (append_assoc text x y) (next (text ++ x) (first text had))

-- One text and then a first part of another.
pub takes_some : (a b c : List ℕ → Type 0) (x y : List ℕ) → SinkTakes a b x → SinkTakesSome b c y → SinkTakesSome a c (x ++ y)
takes_some a b c x y first next text had = go (next (text ++ x) (first text had))
  where
    go : ((n : ℕ) × (n ≤ length y) × c ((text ++ x) ++ take n y)) → (n : ℕ) × (n ≤ length (x ++ y)) × c (text ++ take n (x ++ y))
    go (n, within, has) =
        (length x + n, grind (arith, common_steps, within), subst c (append_assoc text x (take n y) ∙ ap (λ z. text ++ z) (sym (take-append-add x y n))) has)

-- A first part of a text is a first part of a longer one.
pub some_longer : (a c : List ℕ → Type 0) (x y : List ℕ) → SinkTakesSome a c x → SinkTakesSome a c (x ++ y)
some_longer a c x y some text had = go (some text had)
  where
    go : ((n : ℕ) × (n ≤ length x) × c (text ++ take n x)) → (n : ℕ) × (n ≤ length (x ++ y)) × c (text ++ take n (x ++ y))
    go (n, within, has) = (n, grind (arith, common_steps, within), subst c (ap (λ z. text ++ z) (sym (take-append-le n x y within))) has)

-- Nothing more.
pub takes_none : (a b c : List ℕ → Type 0) (x : List ℕ) → SinkTakes a b x → SinkTakes b c [] → SinkTakes a c x
takes_none a b c x first next = subst (λ z. SinkTakes a c z) (append-nil x) (takes_both a b c x [] first next)

pub opening : (a b c : List ℕ → Type 0) (r : Result (Unit {0}) Status) → SinkTakes a b (answer_line 1 answer.Ok) → IsSaid r b c (answer_line 2 (answer.Number 1)) → IsOpeningSaid r a c
opening a b c (Ok done) first next = takes_both a b c (answer_line 1 answer.Ok) (answer_line 2 (answer.Number 1)) first next
opening a b c (Err status.SinkFault) first next = takes_some a b c (answer_line 1 answer.Ok) (answer_line 2 (answer.Number 1)) first next
opening a b c (Err status.OutOfMemory) first next = inr (takes_none a b c (answer_line 1 answer.Ok) first next)
opening a b c (Err _) first next = next

pub opening_cut : (a c : List ℕ → Type 0) (s : Status) → IsSaid (Err s) a c (answer_line 1 answer.Ok) → IsOpeningSaid (Err s) a c
opening_cut a c status.SinkFault said = some_longer a c (answer_line 1 answer.Ok) (answer_line 2 (answer.Number 1)) said
opening_cut a c status.OutOfMemory said = inl said
opening_cut a c _ said = said

-- The lines of one step more.
step_lines-next : (steps : List Step) (i : ℕ) (next : Step) → i < length steps → step_lines (reverse (take (i + 1) steps)) ≡ step_lines (reverse (take i steps)) ++ answer_line (i + 3) (answer_to (inserted (reverse (take i steps))) (slice_index_or steps i next))
step_lines-next steps i next within =
    let e : reverse (take (i + 1) steps) ≡ slice_index_or steps i next ∷ reverse (take i steps) = grind (arith, common_steps) in
    let n : length (reverse (take i steps)) ≡ i = grind (arith, common_steps) in
    ap step_lines e ∙ ap (λ k. step_lines (reverse (take i steps)) ++ answer_line (k + 3) (answer_to (inserted (reverse (take i steps))) (slice_index_or steps i next))) n

pub steps_cut : (a b c : List ℕ → Type 0) (steps : List Step) (i : ℕ) (next : Step) (s : Status) → i < length steps → SinkTakes a b (step_lines (reverse (take i steps))) → IsSaid (Err s) b c (answer_line (i + 3) (answer_to (inserted (reverse (take i steps))) (slice_index_or steps i next))) → AreStepsSaid (Err s) a c steps
steps_cut a b c steps i next status.SinkFault within first said =
    record {
      count = i + 1;
      within = omega (arith, within);
      taken = subst (λ z. SinkTakesSome a c z) (sym (step_lines-next steps i next within)) (takes_some a b c (step_lines (reverse (take i steps))) _ first said);
    }
steps_cut a b c steps i next status.OutOfMemory within first said =
    record { count = i; within = omega (arith, within); taken = takes_none a b c (step_lines (reverse (take i steps))) first said }
steps_cut a b c steps i next _ within first said = said

-- After the opening nothing is told of the steps.
told_none : (steps : List Step) → IsTold steps (lines_before_commit [])
told_none steps = stepped 0 (omega arith)

pub front : (a b c : List ℕ → Type 0) (steps : List Step) (r : Result (Unit {0}) Status) → SinkTakes a b opening_lines → AreStepsSaid r b c steps → IsFrontSaid r a c steps
front a b c steps (Ok done) first said = takes_both a b c opening_lines (step_lines (reverse steps)) first said
front a b c steps (Err status.SinkFault) first said = record {
  text = lines_before_commit (take said.count steps);
  told = stepped said.count said.within;
  taken = takes_some a b c opening_lines (step_lines (reverse (take said.count steps))) first said.taken;
}
front a b c steps (Err status.OutOfMemory) first said = record {
  text = lines_before_commit (take said.count steps);
  told = stepped said.count said.within;
  taken = takes_both a b c opening_lines (step_lines (reverse (take said.count steps))) first said.taken;
}
front a b c steps (Err _) first said = said

pub front_cut : (a c : List ℕ → Type 0) (steps : List Step) (s : Status) → IsOpeningSaid (Err s) a c → IsFrontSaid (Err s) a c steps
front_cut a c steps status.SinkFault said = record { text = lines_before_commit []; told = told_none steps; taken = some_longer a c opening_lines [] said }
front_cut a c steps status.OutOfMemory (inl said) = record { text = []; told = nothing; taken = said }
front_cut a c steps status.OutOfMemory (inr said) = record { text = answer_line 1 answer.Ok; told = attached; taken = said }
front_cut a c steps _ said = said

-- All statements but commit are told before it.
told_front : (steps : List Step) → IsTold steps (lines_before_commit steps)
told_front steps = subst (λ z. IsTold steps (lines_before_commit z)) (take-length steps) (stepped (length steps) (omega arith))

pub transaction : (a b c : List ℕ → Type 0) (steps : List Step) (r : Result (Unit {0}) Status) (before now : Option (List ℕ)) → SinkTakes a b (lines_before_commit steps) → IsCommitSaid r b c (commit_line steps)
    → (r ≡ Err status.SinkFault → IsCommitted before now (inserted (reverse steps))) → IsTransactionSaid r a c steps before now
transaction a b c steps (Ok done) before now first said committed = takes_both a b c (lines_before_commit steps) (commit_line steps) first said
transaction a b c steps (Err status.SinkFault) before now first said committed = inr (takes_some a b c (lines_before_commit steps) (commit_line steps) first said, committed refl)
transaction a b c steps (Err status.OutOfMemory) before now first said committed = record { text = lines_before_commit steps; told = told_front steps; taken = takes_none a b c (lines_before_commit steps) first said }
transaction a b c steps (Err status.DeviceFault) before now first said committed = takes_none a b c (lines_before_commit steps) first said
transaction a b c steps (Err _) before now first said committed = said

pub transaction_cut : (a c : List ℕ → Type 0) (steps : List Step) (s : Status) (before now : Option (List ℕ)) → IsFrontSaid (Err s) a c steps → IsTransactionSaid (Err s) a c steps before now
transaction_cut a c steps status.SinkFault before now said = inl said
transaction_cut a c steps status.OutOfMemory before now said = said
transaction_cut a c steps status.DeviceFault before now said = let no : ⊥ = said in absurd no
transaction_cut a c steps _ before now said = said

-- Before anything was written.
pub transaction_none : (a : List ℕ → Type 0) (steps : List Step) (before now : Option (List ℕ)) → IsTransactionSaid (Err status.OutOfMemory) a a steps before now
transaction_none a steps before now = record { text = []; told = nothing; taken = λ text had. subst a (sym (append-nil text)) had }

-- One step more counts by itself.
count_by-cons : (first : Step) (rest : List Step) → count_by is_insert (first ∷ rest) ≡ count_by is_insert (first ∷ []) + count_by is_insert rest
count_by-cons first rest = sum_by-append (λ x. cond (is_insert x) 1 0) (first ∷ []) rest

-- Steps insert as many values as there are inserts among them.
pub length-inserted : (steps : List Step) → length (inserted steps) ≡ count_by is_insert steps
length-inserted [] = refl
length-inserted (step.Insert text ∷ earlier) =
    let more : length (inserted earlier ++ text ∷ []) ≡ length (inserted earlier) + 1 = length-append (inserted earlier) (text ∷ []) in
    let flip : count_by is_insert earlier + 1 ≡ 1 + count_by is_insert earlier = omega arith in
    more ∙ ap (λ n. n + 1) (length-inserted earlier) ∙ flip ∙ sym (count_by-cons (step.Insert text) earlier)
length-inserted (step.Read row ∷ earlier) =
    let flip : count_by is_insert earlier ≡ 0 + count_by is_insert earlier = omega arith in
    length-inserted earlier ∙ flip ∙ sym (count_by-cons (step.Read row) earlier)

pub count_by-reverse : (steps : List Step) → count_by is_insert (reverse steps) ≡ count_by is_insert steps
count_by-reverse [] = refl
count_by-reverse (first ∷ rest) =
    let turned : count_by is_insert (reverse (first ∷ rest)) ≡ count_by is_insert (reverse rest ++ first ∷ []) = ap (count_by is_insert) (reverse-append (first ∷ []) rest) in
    let parts : count_by is_insert (reverse rest ++ first ∷ []) ≡ count_by is_insert (reverse rest) + count_by is_insert (first ∷ []) = sum_by-append (λ x. cond (is_insert x) 1 0) (reverse rest) (first ∷ []) in
    let before : count_by is_insert (reverse rest) ≡ count_by is_insert rest = count_by-reverse rest in
    let flip : count_by is_insert (reverse rest) + count_by is_insert (first ∷ []) ≡ count_by is_insert (first ∷ []) + count_by is_insert rest = omega (arith, before) in
    turned ∙ parts ∙ flip ∙ sym (count_by-cons first rest)

-- An insert has room while the inserts of all steps are few.
pub has_room : (steps : List Step) (i : ℕ) (next : Step) → i < length steps → count_by is_insert steps ≤ 45 → is_insert (slice_index_or steps i next) ≡ true → length (inserted (reverse (take i steps))) < 45
has_room steps i next within few inserts =
    let values : length (inserted (reverse (take i steps))) ≡ count_by is_insert (reverse (take i steps)) = length-inserted (reverse (take i steps)) in
    let turned : count_by is_insert (reverse (take i steps)) ≡ count_by is_insert (take i steps) = count_by-reverse (take i steps) in
    let one_more : count_by is_insert (take (i + 1) steps) ≡ count_by is_insert (take i steps) + 1 = count_by_more_yes is_insert steps i next within inserts in
    let at_most : count_by is_insert (take (i + 1) steps) ≤ count_by is_insert steps = sum_by-take-le (λ x. cond (is_insert x) 1 0) steps (i + 1) in
    omega (arith, values, turned, one_more, at_most, few)
