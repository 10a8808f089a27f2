-- When one machine reads as another, row by row.
use Rattle.std.proofs.Common.{◌≡◌, ◌∙◌, ℕ, List, refl, sym, subst, find}
use Rattle.std.specs.Prelude.{Option, Some, None}
use Rattle.std.specs.Option.{option_and_then}
use Rattle.fbc_kinds.specs.declared.snapshots.Transaction.{Transaction}
use Rattle.fbc_kinds.specs.Chain.{Version, see}
use Rattle.fbc_kinds.specs.Machine.{Machine, committed_numbers, is_held, is_open_of, newest, open_transaction, standing_versions}
use Rattle.fbc_kinds.specs.Meaning.{IsSameNewest, IsSameOpen, MeanTheSame}
use Rattle.fbc_runs.specs.Orderly.{OwnersDiffer}
use Rattle.fbc_runs.specs.Reading.{IsNewestOrLacks, IsSettledDeletion, ReadsAs}
use Rattle.fbc_runs.proofs.Opens.{SameTransactions, held_by_others}

-- What the found transaction sees of versions.
abbrev pub seen_in : List Version → Option Transaction → Option (List ℕ)
seen_in versions found = option_and_then (λ (t : Transaction). see versions (is_held t.snapshot)) found

-- Of two rows' versions all that look at them see the same, and the first newest is the second or lacks.
pub record RowReads (ts us : List Transaction) (versions others : List Version) : Type 0 where
  pub seen : (who : ℕ) → seen_in versions (find (is_open_of who) ts) ≡ seen_in others (find (is_open_of who) us)
  pub committed : see versions (is_held (committed_numbers ts)) ≡ see others (is_held (committed_numbers us))
  pub lacks : IsNewestOrLacks us (newest versions) (newest others)

-- Versions that are newest or lack are the same but for held deletions.
as_same_newest : (a b : Machine) (p q : Option Version) → IsNewestOrLacks b.transactions p q → IsSameNewest a b p q
as_same_newest a b None None lacks = tt
as_same_newest a b None (Some version) lacks = record { deletion = lacks.deletion; held = lacks.held }
as_same_newest a b (Some version) None lacks = cc
as_same_newest a b (Some version) (Some other) lacks = cc

pub same_transactions : (a b : Machine) → ReadsAs a b → SameTransactions a.transactions b.transactions
same_transactions a b reads = record { opened = reads.means.same_open; committed = reads.means.committed }

pub row_reads : (a b : Machine) → ReadsAs a b → (relation row : ℕ) → RowReads a.transactions b.transactions (standing_versions a relation row) (standing_versions b relation row)
row_reads a b reads relation row = record {
  seen = λ who. reads.means.seen who relation row;
  committed = reads.means.seen_by_committed relation row;
  lacks = reads.lacks relation row;
}

pub reads_as : (a b : Machine) → SameTransactions a.transactions b.transactions
    → ((relation row : ℕ) → RowReads a.transactions b.transactions (standing_versions a relation row) (standing_versions b relation row))
    → ReadsAs a b
reads_as a b same rows = record {
  means = record {
    same_open = same.opened;
    committed = same.committed;
    seen = λ who relation row. (rows relation row).seen who;
    seen_by_committed = λ relation row. (rows relation row).committed;
    same_newest = λ relation row. as_same_newest a b (newest (standing_versions a relation row)) (newest (standing_versions b relation row)) (rows relation row).lacks;
  };
  lacks = λ relation row. (rows relation row).lacks;
}

-- Machines with the transactions and the standing versions of others read in their place.
pub reads_in_place : (a b other_a other_b : Machine) → other_a.transactions ≡ a.transactions → other_b.transactions ≡ b.transactions
    → ((relation row : ℕ) → standing_versions other_a relation row ≡ standing_versions a relation row)
    → ((relation row : ℕ) → standing_versions other_b relation row ≡ standing_versions b relation row)
    → ReadsAs a b → ReadsAs other_a other_b
reads_in_place a b other_a other_b first second left right reads =
    reads_as other_a other_b
    (subst (λ ts. SameTransactions ts other_b.transactions) (sym first) (subst (SameTransactions a.transactions) (sym second) (same_transactions a b reads)))
    (λ relation row.
    subst (λ ts. RowReads ts other_b.transactions (standing_versions other_a relation row) (standing_versions other_b relation row)) (sym first)
    (subst (λ us. RowReads a.transactions us (standing_versions other_a relation row) (standing_versions other_b relation row)) (sym second)
    (subst (λ vs. RowReads a.transactions b.transactions vs (standing_versions other_b relation row)) (sym (left relation row))
    (subst (RowReads a.transactions b.transactions (standing_versions a relation row)) (sym (right relation row)) (row_reads a b reads relation row)))))

-- A list of transactions has the open and committed ones of itself.
same_one : (o : Option Transaction) → IsSameOpen o o
same_one None = tt
same_one (Some t) = record { number = refl; snapshot = λ number. refl }

newest_one : (ts : List Transaction) (o : Option Version) → IsNewestOrLacks ts o o
newest_one ts None = tt
newest_one ts (Some version) = refl

-- Every machine reads as itself.
pub reads_itself : (a : Machine) → ReadsAs a a
reads_itself a =
    reads_as a a
    (record { opened = λ who. same_one (open_transaction a who); committed = λ number. refl })
    (λ relation row. record { seen = λ who. refl; committed = refl; lacks = newest_one a.transactions (newest (standing_versions a relation row)) })

-- A settled deletion of the first is one of the second.
pub settled_in : (ts us : List Transaction) → SameTransactions ts us → OwnersDiffer us → (version : Version) → IsSettledDeletion ts version → IsSettledDeletion us version
settled_in ts us same differ version is = record {
  deletion = is.deletion;
  committed = sym (same.committed version.number) ∙ is.committed;
  held = held_by_others ts us same.opened differ version.number is.held;
}

-- What lacks in one that lacks in another.
lacks_twice : (ts us : List Transaction) → SameTransactions ts us → OwnersDiffer us → (p q r : Option Version) → IsNewestOrLacks ts p q → IsNewestOrLacks us q r → IsNewestOrLacks us p r
lacks_twice ts us same differ (Some version) q r first second = subst (λ o. IsNewestOrLacks us o r) first second
lacks_twice ts us same differ None None r first second = second
lacks_twice ts us same differ None (Some version) r first second = subst (IsNewestOrLacks us None) (sym second) (settled_in ts us same differ version first)

-- An edit that leaves the meaning, and the newest versions but for settled deletions, leaves what is read.
pub edited_reads : (a after b : Machine) → ReadsAs a b → MeanTheSame a after → after.transactions ≡ a.transactions → OwnersDiffer b.transactions
    → ((relation row : ℕ) → IsNewestOrLacks a.transactions (newest (standing_versions after relation row)) (newest (standing_versions a relation row)))
    → ReadsAs after b
edited_reads a after b reads means same differ lacks =
    reads_as after b
    (subst (λ ts. SameTransactions ts b.transactions) (sym same) (same_transactions a b reads))
    (λ relation row. record {
      seen = λ who. sym (means.seen who relation row) ∙ reads.means.seen who relation row;
      committed = sym (means.seen_by_committed relation row) ∙ reads.means.seen_by_committed relation row;
      lacks =
          lacks_twice a.transactions b.transactions (same_transactions a b reads) differ
          (newest (standing_versions after relation row)) (newest (standing_versions a relation row)) (newest (standing_versions b relation row))
          (lacks relation row) (reads.lacks relation row);
    })
