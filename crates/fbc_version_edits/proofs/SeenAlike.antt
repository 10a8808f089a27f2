-- Machines with the same transactions mean the same where all that look at their rows see the same.
use Rattle.std.proofs.Common.{◌≡◌, ◌∙◌, ℕ, List, refl, sym, ap, subst, find}
use Rattle.std.specs.Prelude.{Option, Some, None, Contains}
use Rattle.std.specs.Option.{option_and_then}
use Rattle.fbc_kinds.specs.declared.snapshots.Transaction.{Transaction}
use Rattle.fbc_kinds.specs.Chain.{Version, see}
use Rattle.fbc_kinds.specs.Machine.{Machine, committed_numbers, is_held, is_open_of, newest, open_transaction, seen, seen_by, standing_versions}
use Rattle.fbc_kinds.specs.Meaning.{IsSameNewest, IsSameOpen, MeanTheSame}
use Rattle.fbc_page_edits.proofs.SameMeaning.{same_open, same_newest}

-- Of two rows' versions the open transactions and the committed ones see the same, and the newest ones are the same.
pub record SeenAlike (living : List Transaction) (a b : Machine) (before after : List Version) : Type 0 where
  pub by_open : (t : Transaction) → Contains living t → see before (is_held t.snapshot) ≡ see after (is_held t.snapshot)
  pub by_committed : see before (is_held (committed_numbers a.transactions)) ≡ see after (is_held (committed_numbers a.transactions))
  pub of_newest : IsSameNewest a b (newest before) (newest after)

pub seen_itself : (living : List Transaction) (a b : Machine) (versions : List Version) → SeenAlike living a b versions versions
seen_itself living a b versions = record { by_open = λ t lives. refl; by_committed = refl; of_newest = same_newest a b (newest versions) }

pub alike_rows_mean_the_same : (living : List Transaction) (a b : Machine) → b.transactions ≡ a.transactions
    → ((who : ℕ) (t : Transaction) → open_transaction a who ≡ Some t → Contains living t)
    → ((relation row : ℕ) → SeenAlike living a b (standing_versions a relation row) (standing_versions b relation row))
    → MeanTheSame a b
alike_rows_mean_the_same living a b same lives rows = record {
  same_open = λ who. subst (IsSameOpen (open_transaction a who)) (sym (opens who)) (same_open (open_transaction a who));
  committed = λ number. ap (λ ts. is_held (committed_numbers ts) number) (sym same);
  seen = λ who relation row. seen_same who relation row (open_transaction a who) refl;
  seen_by_committed = λ relation row.
      (rows relation row).by_committed ∙ ap (λ ts. see (standing_versions b relation row) (is_held (committed_numbers ts))) (sym same);
  same_newest = λ relation row. (rows relation row).of_newest;
}
  where
    opens : (who : ℕ) → open_transaction b who ≡ open_transaction a who
    opens who = ap (find (is_open_of who)) same

    seen_same : (who relation row : ℕ) (found : Option Transaction) → open_transaction a who ≡ found → seen_by a who relation row ≡ seen_by b who relation row
    seen_same who relation row None is =
        ap (option_and_then (seen a relation row)) is ∙ sym (ap (option_and_then (seen b relation row)) (opens who ∙ is))
    seen_same who relation row (Some t) is =
        ap (option_and_then (seen a relation row)) is ∙ (rows relation row).by_open t (lives who t is) ∙ sym (ap (option_and_then (seen b relation row)) (opens who ∙ is))
