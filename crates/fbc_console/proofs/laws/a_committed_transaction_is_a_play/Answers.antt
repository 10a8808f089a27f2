use Rattle.std.proofs.Common.{◌≡◌, ◌≤◌, ℕ, List, Some, None}
use Rattle.std.specs.Prelude.{Option, count_by, reverse}
use Rattle.fbc_script.specs.declared.single.Step.{Step}
use Rattle.fbc_script.specs.SingleTransaction.{is_insert}
use Rattle.fbc_console.specs.Committing.{IsCommitted}
use Rattle.fbc_console.specs.Images.{IsFreshFile}
use Rattle.fbc_console.specs.Transaction.{inserted}
use Rattle.fbc_console.specs.Opening.{IsFreshDevice}
use Rattle.fbc_console.specs.PlayTheorem.{HasFileOf, IsFileOf, machine_of}
use Rattle.fbc_console.proofs.laws.a_committed_transaction_is_a_play.Goals as goal

file_of : ((reach : ℕ) (before now : List ℕ) (steps : List Step) → IsFreshFile before → count_by is_insert steps ≤ 45 → IsCommitted (Some before) (Some now) (inserted (reverse steps)) → IsFileOf reach now (machine_of steps)) → (reach : ℕ) (before now : Option (List ℕ)) (steps : List Step) → IsFreshDevice before → count_by is_insert steps ≤ 45 → IsCommitted before now (inserted (reverse steps)) → HasFileOf reach now (machine_of steps)
file_of law reach before None steps fresh few committed = tt
file_of law reach None (Some now) steps fresh few committed = let untold : Some now ≡ None = committed.after in let no : ⊥ = cc in absurd no
file_of law reach (Some before) (Some now) steps fresh few committed = law reach before now steps fresh few committed

pub returns : goal.returns
returns c reach before now steps fresh few committed = record {
  replies = c.answers_are_the_machines.ensures steps;
  file = file_of c.a_committed_file_means_the_machine.ensures reach before now steps fresh few committed;
}
