-- Owners that begin on both machines leave what is read.
use Rattle.std.proofs.Common.{◌≡◌, ◌∙◌, ◌==◌, ◌||◌, ℕ, Bool, true, false, List, refl, sym, ap, subst}
use Rattle.std.proofs.lemmas.Bool.{or_right}
use Rattle.std.specs.Prelude.{Option, Some, None}
use Rattle.fbc_kinds.specs.declared.snapshots.Transaction.{Transaction}
use Rattle.fbc_kinds.specs.Chain.{Version, see}
use Rattle.fbc_kinds.specs.Machine.{Machine, committed_numbers, is_held, open_transaction, standing_versions}
use Rattle.fbc_kinds.specs.Meaning.{IsSameOpen, IsSameTransaction}
use Rattle.fbc_kinds.proofs.Tests.{differ_from_test, same_from_test, test_of_different}
use Rattle.fbc_runs.specs.Reading.{Gains, IsNewestOrLacks, ReadsAs}
use Rattle.fbc_runs.proofs.Numbers.{LacksNumber, see_same}
use Rattle.fbc_runs.proofs.Opens.{SameTransactions}
use Rattle.fbc_runs.proofs.RowReads.{RowReads, reads_as, row_reads, seen_in}

module _ (a b after_a after_b : Machine) (who : ℕ) (t u : Transaction) (reads : ReadsAs a b) (first : Gains a after_a who t) (second : Gains b after_b who u) (same : IsSameTransaction t u)
    (own : (number : ℕ) → is_held t.snapshot number ≡ ((number == t.number) || is_held (committed_numbers a.transactions) number)) where
  begun_same : SameTransactions after_a.transactions after_b.transactions
  begun_same = record {
    opened = λ other. go other (other == who) refl;
    committed = λ number. first.committed number ∙ reads.means.committed number ∙ sym (second.committed number);
  }
    where
      both : (o p : Option Transaction) → o ≡ Some t → p ≡ Some u → IsSameOpen o p
      both o p is was = rw (is, was) same

      alike : (o p q r : Option Transaction) → o ≡ q → p ≡ r → IsSameOpen q r → IsSameOpen o p
      alike o p q r is was rest = rw (is, was) rest

      go : (other : ℕ) (b : Bool) → (other == who) ≡ b → IsSameOpen (open_transaction after_a other) (open_transaction after_b other)
      go other true is =
          let one = same_from_test other who is in
          both (open_transaction after_a other) (open_transaction after_b other) (ap (open_transaction after_a) one ∙ first.found) (ap (open_transaction after_b) one ∙ second.found)
      go other false is =
          let differ = differ_from_test other who is in
          alike (open_transaction after_a other) (open_transaction after_b other) (open_transaction a other) (open_transaction b other) (first.others other differ) (second.others other differ) (reads.means.same_open other)

  -- But for its own number the snapshot is that of the committed ones.
  as_committed : (number : ℕ) → ¬ (number ≡ t.number) → is_held t.snapshot number ≡ is_held (committed_numbers a.transactions) number
  as_committed number differ = own number ∙ ap (λ b. b || is_held (committed_numbers a.transactions) number) (test_of_different number t.number differ)

  lacks_after : (p q : Option Version) → IsNewestOrLacks b.transactions p q → IsNewestOrLacks after_b.transactions p q
  lacks_after (Some version) q is = is
  lacks_after None None is = tt
  lacks_after None (Some version) is =
      let before : is_held (committed_numbers a.transactions) version.number ≡ true = reads.means.committed version.number ∙ is.committed in
      let holds : is_held u.snapshot version.number ≡ true =
      sym (same.snapshot version.number) ∙ own version.number ∙ or_right (version.number == t.number) (is_held (committed_numbers a.transactions) version.number) before in
      record { deletion = is.deletion; committed = second.committed version.number ∙ is.committed; held = second.held version.number is.held holds }

  module _ (versions others : List Version) (was : RowReads a.transactions b.transactions versions others) (lacks : LacksNumber t.number versions) (also : LacksNumber t.number others) where
    seen_by_new : see versions (is_held t.snapshot) ≡ see others (is_held u.snapshot)
    seen_by_new =
        see_same (is_held t.snapshot) (is_held (committed_numbers a.transactions)) versions (λ version at. as_committed version.number (lacks version at))
        ∙ was.committed
        ∙ see_same (is_held (committed_numbers b.transactions)) (is_held u.snapshot) others
        (λ version at. sym (reads.means.committed version.number) ∙ sym (as_committed version.number (also version at)) ∙ same.snapshot version.number)

    row_begun : RowReads after_a.transactions after_b.transactions versions others
    row_begun = record {
      seen = λ other. go other (other == who) refl;
      committed =
          see_same (is_held (committed_numbers after_a.transactions)) (is_held (committed_numbers a.transactions)) versions (λ version at. first.committed version.number)
          ∙ was.committed
          ∙ see_same (is_held (committed_numbers b.transactions)) (is_held (committed_numbers after_b.transactions)) others (λ version at. sym (second.committed version.number));
      lacks = lacks_after _ _ was.lacks;
    }
      where
        go : (other : ℕ) (b : Bool) → (other == who) ≡ b → seen_in versions (open_transaction after_a other) ≡ seen_in others (open_transaction after_b other)
        go other true is =
            let one = same_from_test other who is in
            ap (seen_in versions) (ap (open_transaction after_a) one ∙ first.found) ∙ seen_by_new ∙ sym (ap (seen_in others) (ap (open_transaction after_b) one ∙ second.found))
        go other false is =
            let differ = differ_from_test other who is in
            ap (seen_in versions) (first.others other differ) ∙ was.seen other ∙ sym (ap (seen_in others) (second.others other differ))

  pub begun_reads : ((relation row : ℕ) → LacksNumber t.number (standing_versions a relation row)) → ((relation row : ℕ) → LacksNumber t.number (standing_versions b relation row)) → ReadsAs after_a after_b
  begun_reads lacks also =
      reads_as after_a after_b begun_same
      (λ relation row.
      subst (λ vs. RowReads after_a.transactions after_b.transactions vs (standing_versions after_b relation row)) (sym (first.versions relation row))
      (subst (RowReads after_a.transactions after_b.transactions (standing_versions a relation row)) (sym (second.versions relation row))
      (row_begun (standing_versions a relation row) (standing_versions b relation row) (row_reads a b reads relation row) (lacks relation row) (also relation row))))
