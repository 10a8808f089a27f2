-- What the script of a source asks for, or why it asks for nothing that can be played.
use Rattle.std.specs.Prelude.{◌≡◌, ◌≤◌, ◌<◌, ℕ, false, List, length, count_by, Option, Some}
use Rattle.std.specs.List.{AllByRecursion}
use Rattle.fbc_script.specs.declared.script.Script.{Script}
use Rattle.fbc_script.specs.declared.single.Step.{Step}
use Rattle.fbc_script.specs.declared.single.SingleTransaction.{SingleTransaction}
use Rattle.fbc_script.specs.declared.single.SingleTransaction.TheVariants.{Absent, Steps}
use Rattle.fbc_script.specs.Scripts.{IsScript, first_script_fault}
use Rattle.fbc_script.specs.SingleTransaction.{Asks, IsSingleTransaction, IsShort, is_insert}
use Rattle.fbc_console.specs.declared.statuses.Status.{Status}
use Rattle.fbc_console.specs.declared.statuses.Status.TheVariants as status
use Rattle.fbc_console.specs.Script.{HasReadAll, IsTooLong}

-- A text spells a script that asks for this.
pub record SpellsAsked (text : List ℕ) (asked : SingleTransaction) : Type 0 where
  pub script : Script
  pub spelled : IsScript false text script
  pub asks : Asks asked script

-- A text spells a script that is neither empty nor one transaction.
pub record SpellsOther (text : List ℕ) : Type 0 where
  pub script : Script
  pub spelled : IsScript false text script
  pub other : IsSingleTransaction script → ⊥

-- Why a text asks for nothing that can be played: it is no script, and this is its first faulty line and the cause, or it is another script.
abbrev pub WhyNotSpelled : Status → List ℕ → Type 0
WhyNotSpelled (status.Script line why) text = first_script_fault false text ≡ Some (record { line = line; why = why })
WhyNotSpelled status.Later text = SpellsOther text
WhyNotSpelled status.OutOfMemory text = Unit {0}
WhyNotSpelled _ text = ⊥

-- All that a source has left is within the limit and asks for this.
pub record HasAsked (left : Option (List ℕ)) (asked : SingleTransaction) : Type 0 where
  pub text : List ℕ
  pub read : HasReadAll left text
  pub within : length text ≤ 4194304
  pub spelled : SpellsAsked text asked

-- All that a source has left is within the limit and asks for nothing that can be played.
pub record HasRefused (left : Option (List ℕ)) (status : Status) : Type 0 where
  pub text : List ℕ
  pub read : HasReadAll left text
  pub within : length text ≤ 4194304
  pub why : WhyNotSpelled status text

-- Why a source asks for nothing that can be played.
abbrev pub WhyNotAsked : Status → Option (List ℕ) → Type 0
WhyNotAsked status.SourceFault left = Unit {0}
WhyNotAsked status.SourceLong left = IsTooLong left
WhyNotAsked status.OutOfMemory left = Unit {0}
WhyNotAsked status left = HasRefused left status

-- Steps that can be played: their lines can be numbered, and their values have room in one page.
pub record ArePlayable (steps : List Step) : Type 0 where
  pub numbered : length steps < 4294967293
  pub short : AllByRecursion IsShort steps
  pub few : count_by is_insert steps ≤ 45

abbrev pub IsPlayable : SingleTransaction → Type 0
IsPlayable Absent = Unit {0}
IsPlayable (Steps steps) = ArePlayable steps
