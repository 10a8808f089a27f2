-- Machines that show the same: they have the same open transactions, committed numbers and standing versions. What one reads
-- as, the other does.
use Rattle.std.proofs.Common.{◌≡◌, ◌∙◌, ℕ, List, sym, ap, subst}
use Rattle.fbc_kinds.specs.declared.snapshots.Transaction.{Transaction}
use Rattle.fbc_kinds.specs.Chain.{see}
use Rattle.fbc_kinds.specs.Machine.{Machine, Made, committed_numbers, is_held, open_transaction, standing_versions}
use Rattle.fbc_kinds.specs.Meaning.{IsSameOpen}
use Rattle.fbc_page_edits.proofs.RolledBack.{StandAlike, standing_same}
use Rattle.fbc_runs.specs.Reading.{ReadsAs}
use Rattle.fbc_runs.proofs.RowReads.{RowReads, reads_as, seen_in}

pub record ShowTheSame (a b : Machine) : Type 0 where
  pub opened : (who : ℕ) → open_transaction b who ≡ open_transaction a who
  pub committed : (number : ℕ) → is_held (committed_numbers b.transactions) number ≡ is_held (committed_numbers a.transactions) number
  pub versions : (relation row : ℕ) → standing_versions b relation row ≡ standing_versions a relation row

-- Transactions that stand alike, with the same rows, show the same.
pub stand_alike_shows : (rows : ℕ → ℕ → List Made) (ts us : List Transaction) → StandAlike ts us
    → (let before : Machine = record { rows = rows; transactions = ts } in let after : Machine = record { rows = rows; transactions = us } in ShowTheSame before after)
stand_alike_shows rows ts us alike = record {
  opened = alike.opened;
  committed = λ number. ap (λ (numbers : List ℕ). is_held numbers number) alike.committed;
  versions = standing_same rows ts us alike;
}

pub shown_reads : (a b m : Machine) → ShowTheSame a b → ReadsAs a m → ReadsAs b m
shown_reads a b m same reads =
    reads_as b m
    (record {
      opened = λ who. subst (λ o. IsSameOpen o (open_transaction m who)) (sym (same.opened who)) (reads.means.same_open who);
      committed = λ number. same.committed number ∙ reads.means.committed number;
    })
    (λ relation row.
    subst (λ versions. RowReads b.transactions m.transactions versions (standing_versions m relation row)) (sym (same.versions relation row)) (record {
      seen = λ who. ap (seen_in (standing_versions a relation row)) (same.opened who) ∙ reads.means.seen who relation row;
      committed = (λ i. see (standing_versions a relation row) (λ number. same.committed number i)) ∙ reads.means.seen_by_committed relation row;
      lacks = reads.lacks relation row;
    }))
