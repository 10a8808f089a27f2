-- Every machine means the same as itself, and views with the same chains and states mean one machine.
use Rattle.std.proofs.Common.{◌≡◌, ◌==◌, ℕ, zero, suc, List, Option, Some, None, find, map, refl, sym, ap, subst, ◌∙◌, unwrap_or}
use Rattle.fbc_kinds.specs.declared.snapshots.Transaction.{Transaction}
use Rattle.fbc_kinds.specs.Chain.{Version}
use Rattle.fbc_kinds.specs.Machine.{Machine, newest, open_transaction, standing_versions}
use Rattle.fbc_kinds.specs.Meaning.{IsSameNewest, IsSameOpen, MeanTheSame, made_of, meaning_with, settled, transaction_of, transactions_up_to}
use Rattle.fbc_kinds.specs.View.{View, next_of}
use Rattle.fbc_page_edits.specs.Alike.{HaveSameChains, HaveSameStates}

pub same_open : (o : Option Transaction) → IsSameOpen o o
same_open None = tt
same_open (Some t) = record { number = refl; snapshot = λ number. refl }

pub same_newest : (a b : Machine) (o : Option Version) → IsSameNewest a b o o
same_newest a b None = tt
same_newest a b (Some version) = refl

pub means_itself : (a : Machine) → MeanTheSame a a
means_itself a = record {
  same_open = λ who. same_open (open_transaction a who);
  committed = λ number. refl;
  seen = λ who relation row. refl;
  seen_by_committed = λ relation row. refl;
  same_newest = λ relation row. same_newest a a (newest (standing_versions a relation row));
}

module _ (living : List Transaction) (before after : View) (states : HaveSameStates before after) where
  settled_same : (number : ℕ) → settled after number ≡ settled before number
  settled_same number = rw (states number) refl

  transaction_same : (number : ℕ) → transaction_of after living number ≡ transaction_of before living number
  transaction_same number = ap (unwrap_or (find (λ (t : Transaction). t.number == number) living)) (settled_same number)

  pub transactions_same : (count : ℕ) → transactions_up_to after living count ≡ transactions_up_to before living count
  transactions_same zero = refl
  transactions_same (suc count) = rw (transactions_same count, transaction_same (suc count)) refl

  -- The same rows and transactions.
  pub meaning_same : HaveSameChains before after → next_of after ≡ next_of before → meaning_with living after ≡ meaning_with living before
  meaning_same chains next = λ i. record {
    rows = λ relation row. map made_of (chains relation row i);
    transactions = (ap (transactions_up_to after living) next ∙ transactions_same (next_of before)) i;
  }

  pub means_same : HaveSameChains before after → next_of after ≡ next_of before → MeanTheSame (meaning_with living before) (meaning_with living after)
  means_same chains next = subst (MeanTheSame (meaning_with living before)) (sym (meaning_same chains next)) (means_itself (meaning_with living before))
