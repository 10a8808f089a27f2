-- Commits of an owner on both machines leave what is read.
use Rattle.std.proofs.Common.{◌≡◌, ◌∙◌, ◌==◌, ◌||◌, ◌⊎◌, inl, inr, ℕ, Bool, true, false, List, [], ◌∷◌, refl, sym, ap, subst}
use Rattle.std.proofs.lemmas.Bool.{or_left, or_right}
use Rattle.std.specs.Prelude.{Option, Some, None}
use Rattle.std.proofs.lemmas.Option.{same_Some}
use Rattle.fbc_kinds.specs.declared.snapshots.Transaction.{Transaction}
use Rattle.fbc_kinds.specs.Chain.{Version, see}
use Rattle.fbc_kinds.specs.Machine.{Machine, committed_numbers, is_held, newest, open_transaction, standing_versions}
use Rattle.fbc_kinds.specs.Meaning.{IsSameOpen}
use Rattle.fbc_kinds.proofs.Tests.{differ_from_test, same_from_test, test_of_different, test_of_same}
use Rattle.fbc_runs.specs.Orderly.{HasNewest}
use Rattle.fbc_runs.specs.Reading.{IsNewestOrLacks, ReadsAs}
use Rattle.fbc_runs.proofs.CommittedOnes.{Commits}
use Rattle.fbc_runs.proofs.Numbers.{HasNumber, LacksNumber, first_in, has_or_lacks, see_same}
use Rattle.fbc_runs.proofs.Opens.{SameTransactions}
use Rattle.fbc_runs.proofs.RowReads.{RowReads, reads_as, row_reads, seen_in}

-- Where a version has the number, the newest one has it.
abbrev pub IsNewestOf : ℕ → List Version → Type 0
IsNewestOf number versions = HasNumber number versions → HasNewest number (newest versions)

module _ (a b after_a after_b : Machine) (who number : ℕ) (reads : ReadsAs a b) (first : Commits a after_a who number) (second : Commits b after_b who number) where
  committed_same : SameTransactions after_a.transactions after_b.transactions
  committed_same = record {
    opened = λ other. go other (other == who) refl;
    committed = λ n. first.committed n ∙ ap (λ c. (number == n) || c) (reads.means.committed n) ∙ sym (second.committed n);
  }
    where
      both : (o p : Option Transaction) → o ≡ None → p ≡ None → IsSameOpen o p
      both o p is was = rw (is, was) tt

      alike : (o p q r : Option Transaction) → o ≡ q → p ≡ r → IsSameOpen q r → IsSameOpen o p
      alike o p q r is was rest = rw (is, was) rest

      go : (other : ℕ) (c : Bool) → (other == who) ≡ c → IsSameOpen (open_transaction after_a other) (open_transaction after_b other)
      go other true is =
          let one = same_from_test other who is in
          both (open_transaction after_a other) (open_transaction after_b other) (ap (open_transaction after_a) one ∙ first.none) (ap (open_transaction after_b) one ∙ second.none)
      go other false is =
          let differ = differ_from_test other who is in
          alike (open_transaction after_a other) (open_transaction after_b other) (open_transaction a other) (open_transaction b other) (first.others other differ) (second.others other differ) (reads.means.same_open other)

  lacks_after : (p q : Option Version) → IsNewestOrLacks b.transactions p q → IsNewestOrLacks after_b.transactions p q
  lacks_after (Some version) q is = is
  lacks_after None None is = tt
  lacks_after None (Some version) is = record {
    deletion = is.deletion;
    committed = second.committed version.number ∙ or_right (number == version.number) (is_held (committed_numbers b.transactions) version.number) is.committed;
    held = second.held version.number is.held;
  }

  -- The number itself is committed afterwards.
  own_in : (m after : Machine) → Commits m after who number → (version : Version) → version.number ≡ number → is_held (committed_numbers after.transactions) version.number ≡ true
  own_in m after is version same =
      is.committed version.number ∙ or_left (number == version.number) (is_held (committed_numbers m.transactions) version.number) (test_of_same number version.number (sym same))

  seen_own : (m after : Machine) → Commits m after who number → (version : Version) (older : List Version) → version.number ≡ number → see (version ∷ older) (is_held (committed_numbers after.transactions)) ≡ version.value
  seen_own m after is version older same = rw (own_in m after is version same) refl

  seen_as_before : (m after : Machine) → Commits m after who number → (versions : List Version) → LacksNumber number versions
      → see versions (is_held (committed_numbers after.transactions)) ≡ see versions (is_held (committed_numbers m.transactions))
  seen_as_before m after is versions lacks =
      see_same (is_held (committed_numbers after.transactions)) (is_held (committed_numbers m.transactions)) versions
      (λ version at. is.committed version.number ∙ ap (λ c. c || is_held (committed_numbers m.transactions) version.number) (test_of_different number version.number (λ same. lacks version at (sym same))))

  newest_number : (version : Version) (older : List Version) → HasNewest number (newest (version ∷ older)) → version.number ≡ number
  newest_number version older has = ap (λ (v : Version). v.number) (same_Some version has.version has.is) ∙ has.same

  -- Both see the newest version, which has the number.
  seen_newest : (version : Version) (older others : List Version) → newest others ≡ Some version → version.number ≡ number
      → see (version ∷ older) (is_held (committed_numbers after_a.transactions)) ≡ see others (is_held (committed_numbers after_b.transactions))
  seen_newest version older [] is same = cc
  seen_newest version older (other ∷ others) is same =
      let one = same_Some other version is in
      seen_own a after_a first version older same
      ∙ ap (λ (v : Version). v.value) (sym one)
      ∙ sym (seen_own b after_b second other others (ap (λ (v : Version). v.number) one ∙ same))

  -- A deletion that lacks is not seen.
  seen_lacking : (others : List Version) (version : Version) → newest others ≡ Some version → version.number ≡ number → version.value ≡ None → None ≡ see others (is_held (committed_numbers after_b.transactions))
  seen_lacking [] version is same deletion = cc
  seen_lacking (other ∷ others) version is same deletion =
      let one = same_Some other version is in
      sym (seen_own b after_b second other others (ap (λ (v : Version). v.number) one ∙ same) ∙ ap (λ (v : Version). v.value) one ∙ deletion)

  lacking_deletion : (o : Option Version) (version : Version) → o ≡ Some version → IsNewestOrLacks b.transactions None o → version.value ≡ None
  lacking_deletion None version is lacks = cc
  lacking_deletion (Some other) version is lacks = sym (ap (λ (v : Version). v.value) (same_Some other version is)) ∙ lacks.deletion

  module _ (versions others : List Version) (was : RowReads a.transactions b.transactions versions others) (front : IsNewestOf number versions) (also : IsNewestOf number others) where
    seen_after : see versions (is_held (committed_numbers after_a.transactions)) ≡ see others (is_held (committed_numbers after_b.transactions))
    seen_after = go versions refl (has_or_lacks number versions) front was.lacks
      where
        other_has : (found : HasNewest number (newest others)) (vs : List Version) → LacksNumber number vs → IsNewestOrLacks b.transactions (newest vs) (newest others)
            → see vs (is_held (committed_numbers after_a.transactions)) ≡ see others (is_held (committed_numbers after_b.transactions))
        other_has found [] lacks at = seen_lacking others found.version found.is found.same (lacking_deletion (newest others) found.version found.is at)
        other_has found (version ∷ older) lacks at =
            let one = same_Some version found.version (sym at ∙ found.is) in
            absurd (lacks version (first_in version older) (ap (λ (v : Version). v.number) one ∙ found.same))

        neither : (vs : List Version) → versions ≡ vs → LacksNumber number vs → IsNewestOrLacks b.transactions (newest vs) (newest others) → HasNumber number others ⊎ LacksNumber number others
            → see vs (is_held (committed_numbers after_a.transactions)) ≡ see others (is_held (committed_numbers after_b.transactions))
        neither vs is lacks at (inl has) = other_has (also has) vs lacks at
        neither vs is lacks at (inr apart) =
            seen_as_before a after_a first vs lacks
            ∙ ap (λ (ws : List Version). see ws (is_held (committed_numbers a.transactions))) (sym is)
            ∙ was.committed
            ∙ sym (seen_as_before b after_b second others apart)

        go : (vs : List Version) → versions ≡ vs → HasNumber number vs ⊎ LacksNumber number vs → IsNewestOf number vs → IsNewestOrLacks b.transactions (newest vs) (newest others)
            → see vs (is_held (committed_numbers after_a.transactions)) ≡ see others (is_held (committed_numbers after_b.transactions))
        go vs is (inr lacks) in_front at = neither vs is lacks at (has_or_lacks number others)
        go [] is (inl has) in_front at = let none = in_front has in let no : None ≡ Some none.version = none.is in cc
        go (version ∷ older) is (inl has) in_front at = seen_newest version older others at (newest_number version older (in_front has))

    row_committed : RowReads after_a.transactions after_b.transactions versions others
    row_committed = record {
      seen = λ other. go other (other == who) refl;
      committed = seen_after;
      lacks = lacks_after (newest versions) (newest others) was.lacks;
    }
      where
        go : (other : ℕ) (c : Bool) → (other == who) ≡ c → seen_in versions (open_transaction after_a other) ≡ seen_in others (open_transaction after_b other)
        go other true is =
            let one = same_from_test other who is in
            ap (seen_in versions) (ap (open_transaction after_a) one ∙ first.none) ∙ sym (ap (seen_in others) (ap (open_transaction after_b) one ∙ second.none))
        go other false is =
            let differ = differ_from_test other who is in
            ap (seen_in versions) (first.others other differ) ∙ was.seen other ∙ sym (ap (seen_in others) (second.others other differ))

  pub committed_reads : ((relation row : ℕ) → IsNewestOf number (standing_versions a relation row)) → ((relation row : ℕ) → IsNewestOf number (standing_versions b relation row)) → ReadsAs after_a after_b
  committed_reads front also =
      reads_as after_a after_b committed_same
      (λ relation row.
      subst (λ vs. RowReads after_a.transactions after_b.transactions vs (standing_versions after_b relation row)) (sym (first.versions relation row))
      (subst (RowReads after_a.transactions after_b.transactions (standing_versions a relation row)) (sym (second.versions relation row))
      (row_committed (standing_versions a relation row) (standing_versions b relation row) (row_reads a b reads relation row) (front relation row) (also relation row))))
