use Rattle.std.proofs.Common.{◌≡◌, ◌≤◌, ◌⊎◌, inl, inr, ℕ, List, Some, None, Ok, Err, subst}
use Rattle.std.specs.Prelude.{Option, Result, count_by, reverse}
use Rattle.fbc_kinds.specs.Machine.{empty}
use Rattle.fbc_script.specs.declared.single.Step.{Step}
use Rattle.fbc_script.specs.SingleTransaction.{is_insert}
use Rattle.fbc_console.specs.declared.statuses.Status.{Status}
use Rattle.fbc_console.specs.Committing.{IsCommitted, IsPartCommitted, Stands}
use Rattle.fbc_console.specs.Images.{IsFreshFile}
use Rattle.fbc_console.specs.Transaction.{inserted}
use Rattle.fbc_console.specs.Opening.{IsFreshDevice}
use Rattle.fbc_console.specs.PlayTheorem.{HasAllOrNothing, IsFileOf, machine_of}
use Rattle.fbc_console.proofs.laws.a_transaction_stands_as_a_whole.Goals as goal

module _ (untouched : (reach : ℕ) (bytes : List ℕ) → IsFreshFile bytes → IsFileOf reach bytes empty) (whole : (reach : ℕ) (before now : List ℕ) (steps : List Step) → IsFreshFile before → count_by is_insert steps ≤ 45 → IsCommitted (Some before) (Some now) (inserted (reverse steps)) → IsFileOf reach now (machine_of steps)) (part : (reach : ℕ) (before now : List ℕ) (steps : List Step) → IsFreshFile before → count_by is_insert steps ≤ 45 → IsPartCommitted (Some before) (Some now) (inserted (reverse steps)) → IsFileOf reach now empty ⊎ IsFileOf reach now (machine_of steps)) where
  all_or_nothing : (reach : ℕ) (ended : Result (Unit {0}) Status) (before now : Option (List ℕ)) (steps : List Step) → IsFreshDevice before → count_by is_insert steps ≤ 45 → Stands ended before now (inserted (reverse steps)) → HasAllOrNothing reach now steps
  all_or_nothing reach ended before None steps fresh few stands = inl tt
  all_or_nothing reach (Ok done) None (Some now) steps fresh few stands = let untold : Some now ≡ None = stands.after in let no : ⊥ = cc in absurd no
  all_or_nothing reach (Ok done) (Some before) (Some now) steps fresh few stands = inr (whole reach before now steps fresh few stands)
  all_or_nothing reach (Err status) None (Some now) steps fresh few (inl same) = let no : ⊥ = cc in absurd no
  all_or_nothing reach (Err status) None (Some now) steps fresh few (inr some) = let untold : Some now ≡ None = some.after.after in let no : ⊥ = cc in absurd no
  all_or_nothing reach (Err status) (Some before) (Some now) steps fresh few (inl same) = let is : before ≡ now = cc in inl (subst (λ bytes. IsFileOf reach bytes empty) is (untouched reach before fresh))
  all_or_nothing reach (Err status) (Some before) (Some now) steps fresh few (inr some) = part reach before now steps fresh few some

pub returns : goal.returns
returns c reach ended before now steps fresh few stands = all_or_nothing c.the_fresh_file_means_no_rows.ensures c.a_committed_file_means_the_machine.ensures c.a_part_of_a_commit_stands_as_a_whole.ensures reach ended before now steps fresh few stands
