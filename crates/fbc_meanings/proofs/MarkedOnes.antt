-- The transactions that a view means after a number was marked: the same, or one of them is at its end.
use Rattle.std.proofs.Common.{◌≡◌, ◌∙◌, ◌++◌, ◌==◌, ℕ, zero, suc, List, [], ◌∷◌, refl, ap, find, map, if◌then◌else◌}
use Rattle.std.specs.Prelude.{Option, Some, None, unwrap_or}
use Rattle.fbc_kinds.specs.declared.snapshots.Standing.TheVariants as standing
use Rattle.fbc_kinds.specs.declared.snapshots.Transaction.{Transaction}
use Rattle.fbc_kinds.specs.Chain.{state_of}
use Rattle.fbc_kinds.specs.Meaning.{made_of, meaning_with, settled, transaction_of, transactions_up_to}
use Rattle.fbc_kinds.specs.View.{View, is_committed_state, next_of}
use Rattle.fbc_kinds.proofs.Tests.{test_of_same}
use Rattle.fbc_page_edits.specs.Alike.{HaveSameChains}
use Rattle.fbc_version_edits.specs.Open.{IsClosed}
use Rattle.fbc_version_edits.proofs.Finds.{none_passes}

pub settled_as : (view after : View) (number : ℕ) → is_committed_state (state_of after number) ≡ is_committed_state (state_of view number) → settled after number ≡ settled view number
settled_as view after number same =
    ap (λ b. let t : Transaction = record { number = number; owner = 0; standing = if b then standing.Committed else standing.RolledBack; snapshot = [] } in t) same

-- One transaction is the same where its mark says the same, or where it is an open one.
pub one_as : (living : List Transaction) (view after : View) (number : ℕ) → (IsClosed living number → is_committed_state (state_of after number) ≡ is_committed_state (state_of view number))
    → transaction_of after living number ≡ transaction_of view living number
one_as living view after number marks = go (find (λ (t : Transaction). t.number == number) living) refl
  where
    go : (found : Option Transaction) → find (λ (t : Transaction). t.number == number) living ≡ found → unwrap_or found (settled after number) ≡ unwrap_or found (settled view number)
    go (Some t) is = refl
    go None is = settled_as view after number (marks closed)
      where
        closed : IsClosed living number
        closed t lives same =
            let fails = none_passes (λ (u : Transaction). u.number == number) living t is lives in
            let passes = test_of_same t.number number same in
            cc

module _ (living : List Transaction) (view after : View) (marks : (number : ℕ) → IsClosed living number → is_committed_state (state_of after number) ≡ is_committed_state (state_of view number)) where
  all_as : (count : ℕ) → transactions_up_to after living count ≡ transactions_up_to view living count
  all_as zero = refl
  all_as (suc count) = λ i. all_as count i ++ one_as living view after (suc count) (marks (suc count)) i ∷ []

  -- Where the marks of the numbers that are not open say the same, a view means one machine.
  pub marked_as : HaveSameChains view after → next_of after ≡ next_of view → meaning_with living after ≡ meaning_with living view
  marked_as chains next = λ i. record {
    rows = λ relation row. map made_of (chains relation row i);
    transactions = (ap (transactions_up_to after living) next ∙ all_as (next_of view)) i;
  }
