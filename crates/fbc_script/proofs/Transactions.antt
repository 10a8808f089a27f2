-- The steps that are read from a script's lines are those that the script asks for.
use Rattle.std.proofs.Common.{◌≡◌, ℕ, ◌≤◌, Bool, true, false, ◌&&◌, if◌then◌else◌, List, [], ◌∷◌, ◌++◌, length, map, codes, Option, Some, None, refl, sym, ap, subst, ◌∙◌}
use Rattle.std.specs.Prelude.{count_by}
use Rattle.std.specs.List.{AllByRecursion}
use Rattle.std.proofs.lemmas.Bool.{eqb-true, leb-true, le-leb, and_parts}
use Rattle.std.proofs.lemmas.Slice.Eq.{bytes_eq-Decides}
use Rattle.std.proofs.lemmas.Option.{cond_some}
use Rattle.fbc_script.specs.declared.script.Statement.TheVariants as statement
use Rattle.fbc_script.specs.declared.script.Order.{Order}
use Rattle.fbc_script.specs.declared.script.Order.TheVariants.{Plain}
use Rattle.fbc_script.specs.declared.script.Line.{Line}
use Rattle.fbc_script.specs.declared.single.Step.{Step}
use Rattle.fbc_script.specs.declared.single.Step.TheVariants.{Insert, Read}
use Rattle.fbc_script.specs.declared.single.SingleTransaction.{SingleTransaction}
use Rattle.fbc_script.specs.declared.single.SingleTransaction.TheVariants.{Absent, Steps}
use Rattle.fbc_script.specs.SingleTransaction.{order_of, transaction_orders, is_short, IsShort, is_insert, HasSteps, Asks, Tells, is_attach, is_begin, is_commit, is_opening, is_here, step_of, with_step, if_last, steps_to_commit, has_few_inserts, if_few, few_steps, asked_by}

-- The tests of single orders.
attach-is : (order : Order) → is_attach order ≡ true → order ≡ Plain 1 statement.Attach
attach-is (Plain at statement.Attach) is = ap (λ n. Plain n statement.Attach) (eqb-true _ _ is)
attach-is _ is = cc

begin-is : (order : Order) → is_begin order ≡ true → order ≡ Plain 1 (statement.Begin true)
begin-is (Plain at (statement.Begin wait)) is =
    let both = and_parts _ _ is in
    ap (λ n. Plain n (statement.Begin wait)) (eqb-true _ _ both.0) ∙ ap (λ w. Plain 1 (statement.Begin w)) both.1
begin-is _ is = cc

commit-is : (order : Order) → is_commit order ≡ true → order ≡ Plain 1 statement.Commit
commit-is (Plain at statement.Commit) is = ap (λ n. Plain n statement.Commit) (eqb-true _ _ is)
commit-is _ is = cc

-- A step is read from its order alone.
here-is : (at : ℕ) (relation : List ℕ) → is_here at relation ≡ true → (at ≡ 1) × (relation ≡ codes "t")
here-is at relation is =
    let both = and_parts _ _ is in
    (eqb-true _ _ both.0, (bytes_eq-Decides relation (codes "t")).0 both.1)

step-is : (order : Order) (step : Step) → step_of order ≡ Some step → (order ≡ order_of step) × IsShort step
step-is (Plain at (statement.Insert relation text)) step some =
    let found = cond_some (is_here at relation && is_short text) (Insert text) step some in
    let both = and_parts _ _ found.0 in
    let here = here-is at relation both.0 in
    let P : Step → Type 0 = λ s. (Plain at (statement.Insert relation text) ≡ order_of s) × IsShort s in
    subst P found.1 (rw (here.0, here.1) refl, both.1)
step-is (Plain at (statement.Read relation row)) step some =
    let found = cond_some (is_here at relation) (Read row) step some in
    let here = here-is at relation found.0 in
    let P : Step → Type 0 = λ s. (Plain at (statement.Read relation row) ≡ order_of s) × IsShort s in
    subst P found.1 (rw (here.0, here.1) refl, tt)
step-is _ step some = cc

step_of-order_of : (step : Step) → IsShort step → step_of (order_of step) ≡ Some step
step_of-order_of (Insert text) short = rw short refl
step_of-order_of (Read row) short = refl

commit-order_of : (step : Step) → is_commit (order_of step) ≡ false
commit-order_of (Insert text) = refl
commit-order_of (Read row) = refl

abbrev orders_of : List Line → List Order
orders_of lines = map (λ (line : Line). line.order) lines

-- What was read: the orders of the steps and the commit.
abbrev AreSteps : List Step → List Line → Type 0
AreSteps steps lines = (orders_of lines ≡ map order_of steps ++ Plain 1 statement.Commit ∷ []) × AllByRecursion IsShort steps

last-is : (lines : List Line) (steps : List Step) → if_last lines ≡ Some steps → (lines ≡ []) × (steps ≡ [])
last-is [] steps some = (refl, cc)
last-is (line ∷ lines) steps some = cc

steps-onto : (line : Line) (lines : List Line) (steps : List Step) (first : Option Step) (later : Option (List Step)) → step_of line.order ≡ first → ((found : List Step) → later ≡ Some found → AreSteps found lines) → with_step first later ≡ Some steps → AreSteps steps (line ∷ lines)
steps-onto line lines steps None later is more some = cc
steps-onto line lines steps (Some step) None is more some = cc
steps-onto line lines steps (Some step) (Some found) is more some =
    let these : step ∷ found ≡ steps = cc in
    let first = step-is line.order step is in
    let others = more found refl in
    let P : List Step → Type 0 = λ xs. AreSteps xs (line ∷ lines) in
    subst P these (rw (first.0, others.0) refl, (first.1, others.1))

steps-by : (is : Bool) (line : Line) (lines : List Line) (steps : List Step) → is_commit line.order ≡ is → ((found : List Step) → steps_to_commit lines ≡ Some found → AreSteps found lines) → (if is then if_last lines else with_step (step_of line.order) (steps_to_commit lines)) ≡ Some steps → AreSteps steps (line ∷ lines)
steps-by true line lines steps is more some =
    let last = last-is lines steps some in
    let P : List Step → Type 0 = λ xs. AreSteps xs (line ∷ lines) in
    subst P (sym last.1) (rw (commit-is line.order is, last.0) refl, tt)
steps-by false line lines steps is more some = steps-onto line lines steps (step_of line.order) (steps_to_commit lines) refl more some

steps-are : (lines : List Line) (steps : List Step) → steps_to_commit lines ≡ Some steps → AreSteps steps lines
steps-are [] steps some = cc
steps-are (line ∷ lines) steps some = steps-by (is_commit line.order) line lines steps refl (steps-are lines) some

nothing-is : (order : Order) (orders : List Order) → [] ≡ order ∷ orders → ⊥
nothing-is order orders are = cc

-- What the orders of steps and a commit give when they are read.
steps-read : (lines : List Line) (steps : List Step) → orders_of lines ≡ map order_of steps ++ Plain 1 statement.Commit ∷ [] → AllByRecursion IsShort steps → steps_to_commit lines ≡ Some steps
steps-read [] [] are short = absurd (nothing-is _ _ are)
steps-read [] (step ∷ steps) are short = absurd (nothing-is _ _ are)
steps-read (line ∷ []) [] are short =
    let first : line.order ≡ Plain 1 statement.Commit = cc in rw first refl
steps-read (line ∷ next ∷ lines) [] are short = let none : next.order ∷ orders_of lines ≡ [] = cc in absurd (nothing-is _ _ (sym none))
steps-read (line ∷ lines) (step ∷ steps) are short =
    let first : line.order ≡ order_of step = cc in
    let others : orders_of lines ≡ map order_of steps ++ Plain 1 statement.Commit ∷ [] = cc in
    rw (first, commit-order_of step, step_of-order_of step short.0, steps-read lines steps others short.1) refl

-- What lines ask for is what is read.
transaction-read : (lines : List Line) (steps : List Step) → orders_of lines ≡ transaction_orders steps → AllByRecursion IsShort steps → count_by is_insert steps ≤ 45 → asked_by lines ≡ Some (Steps steps)
transaction-read [] steps are short few = absurd (nothing-is _ _ are)
transaction-read (line ∷ []) steps are short few =
    let none : [] ≡ Plain 1 (statement.Begin true) ∷ map order_of steps ++ Plain 1 statement.Commit ∷ [] = cc in absurd (nothing-is _ _ none)
transaction-read (attach ∷ begin ∷ lines) steps are short few =
    let first : attach.order ≡ Plain 1 statement.Attach = cc in
    let second : begin.order ≡ Plain 1 (statement.Begin true) = cc in
    let others : orders_of lines ≡ map order_of steps ++ Plain 1 statement.Commit ∷ [] = cc in
    rw (first, second, steps-read lines steps others short, le-leb _ _ few) refl

asked-read : (asked : SingleTransaction) (lines : List Line) (size : ℕ) → Asks asked (record { lines = lines; length = size }) → asked_by lines ≡ Some asked
asked-read Absent lines size asks = rw asks.0 refl
asked-read (Steps steps) lines size asks = transaction-read lines steps asks.orders asks.short asks.few

few-is : (found : Option (List Step)) (asked : SingleTransaction) → if_few found ≡ Some asked → (steps : List Step) × (found ≡ Some steps) × (has_few_inserts steps ≡ true) × (Steps steps ≡ asked)
few-is None asked some = cc
few-is (Some steps) asked some = let few = cond_some _ _ _ some in (steps, refl, few.0, few.1)

opening-is : (is : Bool) (lines : List Line) (asked : SingleTransaction) → (if is then few_steps lines else None) ≡ Some asked → (is ≡ true) × (few_steps lines ≡ Some asked)
opening-is true lines asked some = (refl, some)
opening-is false lines asked some = cc

has-steps : (attach begin : Line) (lines : List Line) (steps : List Step) (size : ℕ) → attach.order ≡ Plain 1 statement.Attach → begin.order ≡ Plain 1 (statement.Begin true) → AreSteps steps lines → count_by is_insert steps ≤ 45 → size ≡ length (attach ∷ begin ∷ lines) → HasSteps steps (record { lines = attach ∷ begin ∷ lines; length = size })
has-steps attach begin lines steps size first second are few all = record {
  orders = rw (first, second, are.0) refl;
  short = are.1;
  few = few;
  all = all;
}

-- What is read is what lines ask for.
asks-is : (asked : SingleTransaction) (lines : List Line) (size : ℕ) → size ≡ length lines → asked_by lines ≡ Some asked → Asks asked (record { lines = lines; length = size })
asks-is asked [] size all some =
    let P : SingleTransaction → Type 0 = λ a. Asks a (record { lines = []; length = size }) in
    let these : Absent ≡ asked = cc in
    subst P these (refl, all)
asks-is asked (line ∷ []) size all some = cc
asks-is asked (attach ∷ begin ∷ lines) size all some =
    let opened = opening-is (is_opening attach begin) lines asked some in
    let both = and_parts _ _ opened.0 in
    let few = few-is (steps_to_commit lines) asked opened.1 in
    let steps = steps-are lines few.0 few.1 in
    let P : SingleTransaction → Type 0 = λ a. Asks a (record { lines = attach ∷ begin ∷ lines; length = size }) in
    subst P few.3 (has-steps attach begin lines few.0 size (attach-is attach.order both.0) (begin-is begin.order both.1) steps (leb-true _ _ few.2) all)

tells-by : (found : Option SingleTransaction) (lines : List Line) (size : ℕ) → size ≡ length lines → asked_by lines ≡ found → Tells found (record { lines = lines; length = size })
tells-by None lines size all is = λ single. let some = asked-read single.0 lines size single.1 in cc
tells-by (Some asked) lines size all is = asks-is asked lines size all is

pub Tells-asked_by : (lines : List Line) (size : ℕ) → size ≡ length lines → Tells (asked_by lines) (record { lines = lines; length = size })
Tells-asked_by lines size all = tells-by (asked_by lines) lines size all refl
