-- Scripts of at most one transaction: of attachment 1, waiting, over the relation `t`.
use Rattle.std.specs.Prelude.{◌≡◌, ◌≤◌, ℕ, Bool, true, false, ◌==◌, ◌&&◌, nat_le, List, [], ◌∷◌, ◌++◌, length, map, count_by, codes, Option, Some, None, if◌then◌else◌}
use Rattle.std.specs.List.{AllByRecursion}
use Rattle.std.specs.Str.{bytes_eq}
use Rattle.fbc_script.specs.declared.script.Statement.TheVariants as statement
use Rattle.fbc_script.specs.declared.script.Order.{Order}
use Rattle.fbc_script.specs.declared.script.Order.TheVariants.{Plain}
use Rattle.fbc_script.specs.declared.script.Line.{Line}
use Rattle.fbc_script.specs.declared.script.Script.{Script}
use Rattle.fbc_script.specs.declared.single.Step.{Step}
use Rattle.fbc_script.specs.declared.single.Step.TheVariants.{Insert, Read}
use Rattle.fbc_script.specs.declared.single.SingleTransaction.{SingleTransaction}
use Rattle.fbc_script.specs.declared.single.SingleTransaction.TheVariants.{Absent, Steps}

-- The order of a step.
abbrev pub order_of : Step → Order
order_of (Insert text) = Plain 1 (statement.Insert (codes "t") text)
order_of (Read row) = Plain 1 (statement.Read (codes "t") row)

-- The orders of a transaction with these steps.
abbrev pub transaction_orders : List Step → List Order
transaction_orders steps =
    Plain 1 statement.Attach ∷ Plain 1 (statement.Begin true) ∷ map order_of steps ++ Plain 1 statement.Commit ∷ []

-- An insert has 1 to 10 bytes.
abbrev pub is_short : List ℕ → Bool
is_short text = nat_le 1 (length text) && nat_le (length text) 10

abbrev pub IsShort : Step → Type 0
IsShort (Insert text) = is_short text ≡ true
IsShort (Read row) = Unit {0}

abbrev pub is_insert : Step → Bool
is_insert (Insert text) = true
is_insert (Read row) = false

-- The orders of the script are those of a transaction with these steps, at most 45 of them inserts, and no line is passed over.
pub record HasSteps (steps : List Step) (script : Script) : Type 0 where
  pub orders : map (λ (line : Line). line.order) script.lines ≡ transaction_orders steps
  pub short : AllByRecursion IsShort steps
  pub few : count_by is_insert steps ≤ 45
  pub all : script.length ≡ length script.lines

-- The script asks for this: nothing where it has no lines at all.
abbrev pub Asks : SingleTransaction → Script → Type 0
Asks Absent script = (script.lines ≡ []) × (script.length ≡ 0)
Asks (Steps steps) script = HasSteps steps script

-- A script of at most one transaction.
abbrev pub IsSingleTransaction : Script → Type 0
IsSingleTransaction script = (asked : SingleTransaction) × Asks asked script

-- What was found is what the script asks for; nothing is found exactly where it is no such script.
abbrev pub Tells : Option SingleTransaction → Script → Type 0
Tells None script = IsSingleTransaction script → ⊥
Tells (Some asked) script = Asks asked script

-- The tests by which lines are read.
abbrev pub is_attach : Order → Bool
is_attach (Plain at statement.Attach) = at == 1
is_attach _ = false

abbrev pub is_begin : Order → Bool
is_begin (Plain at (statement.Begin wait)) = at == 1 && wait
is_begin _ = false

abbrev pub is_commit : Order → Bool
is_commit (Plain at statement.Commit) = at == 1
is_commit _ = false

abbrev pub is_opening : Line → Line → Bool
is_opening attach begin = is_attach attach.order && is_begin begin.order

-- Whether attachment 1 is asked over the relation `t`.
abbrev pub is_here : ℕ → List ℕ → Bool
is_here at relation = at == 1 && bytes_eq relation (codes "t")

-- The step that an order asks for.
abbrev pub step_of : Order → Option Step
step_of (Plain at (statement.Insert relation text)) = if is_here at relation && is_short text then Some (Insert text) else None
step_of (Plain at (statement.Read relation row)) = if is_here at relation then Some (Read row) else None
step_of _ = None

-- A step before others.
abbrev pub with_step : Option Step → Option (List Step) → Option (List Step)
with_step (Some step) (Some steps) = Some (step ∷ steps)
with_step _ _ = None

-- The steps up to the commit, which ends the lines.
abbrev pub if_last : List Line → Option (List Step)
if_last [] = Some []
if_last _ = None

abbrev pub steps_to_commit : List Line → Option (List Step)
steps_to_commit [] = None
steps_to_commit (line ∷ lines) =
    if is_commit line.order then if_last lines else with_step (step_of line.order) (steps_to_commit lines)

abbrev pub has_few_inserts : List Step → Bool
has_few_inserts steps = nat_le (count_by is_insert steps) 45

abbrev pub if_few : Option (List Step) → Option SingleTransaction
if_few None = None
if_few (Some steps) = if has_few_inserts steps then Some (Steps steps) else None

abbrev pub few_steps : List Line → Option SingleTransaction
few_steps lines = if_few (steps_to_commit lines)

-- What lines ask for, none of all lines being passed over.
abbrev pub asked_by : List Line → Option SingleTransaction
asked_by [] = Some Absent
asked_by (attach ∷ []) = None
asked_by (attach ∷ begin ∷ lines) = if is_opening attach begin then few_steps lines else None
