-- A change of a row leaves what is read: it comes to the same on both machines.
use Rattle.std.proofs.Common.{◌≡◌, ◌∙◌, ℕ, Bool, true, false, ◌==◌, ◌&&◌, List, [], ◌∷◌, refl, sym, ap, subst, find, if◌then◌else◌}
use Rattle.std.specs.Prelude.{Option, Some, None, is_some}
use Rattle.fbc_kinds.specs.declared.snapshots.Transaction.{Transaction}
use Rattle.fbc_kinds.specs.Chain.{Version, see}
use Rattle.fbc_kinds.specs.Machine.{Machine, after_change, committed_numbers, is_done, is_held, is_open_of, newest, open_place, open_transaction, standing_versions, with_version}
use Rattle.fbc_kinds.specs.Meaning.{IsSameOpen, IsSameTransaction}
use Rattle.fbc_runs.specs.Reading.{IsNewestOrLacks, ReadsAs}
use Rattle.fbc_runs.proofs.Added.{Adds, adds, adds_nothing, with_first}
use Rattle.fbc_runs.proofs.Opens.{SameTransactions}
use Rattle.fbc_runs.proofs.RowReads.{RowReads, reads_as, row_reads, same_transactions, seen_in}

-- The same version in front of both.
seen_first : (held also : ℕ → Bool) (version : Version) (versions others : List Version) → held version.number ≡ also version.number → see versions held ≡ see others also → see (version ∷ versions) held ≡ see (version ∷ others) also
seen_first held also version versions others same rest = go (also version.number) same refl
  where
    go : (b : Bool) → held version.number ≡ b → also version.number ≡ b → see (version ∷ versions) held ≡ see (version ∷ others) also
    go true is was = rw (is, was) refl
    go false is was = rw (is, was) rest

seen_first_in : (version : Version) (versions others : List Version) (o p : Option Transaction) → IsSameOpen o p → seen_in versions o ≡ seen_in others p → seen_in (version ∷ versions) o ≡ seen_in (version ∷ others) p
seen_first_in version versions others None None same rest = refl
seen_first_in version versions others None (Some u) same rest = absurd same
seen_first_in version versions others (Some t) None same rest = absurd same
seen_first_in version versions others (Some t) (Some u) same rest = seen_first (is_held t.snapshot) (is_held u.snapshot) version versions others (same.snapshot version.number) rest

pub row_with_first : (ts us : List Transaction) → SameTransactions ts us → (b : Bool) (version : Version) (versions others : List Version) → RowReads ts us versions others
    → RowReads ts us (with_first b version versions) (with_first b version others)
row_with_first ts us same false version versions others reads = reads
row_with_first ts us same true version versions others reads = record {
  seen = λ who. seen_first_in version versions others (find (is_open_of who) ts) (find (is_open_of who) us) (same.opened who) (reads.seen who);
  committed = seen_first (is_held (committed_numbers ts)) (is_held (committed_numbers us)) version versions others (same.committed version.number) reads.committed;
  lacks = refl;
}

-- Machines with one version more in the same row.
pub added_reads : (a b after_a after_b : Machine) (relation row : ℕ) (version : Version) → ReadsAs a b → Adds a after_a relation row version → Adds b after_b relation row version → ReadsAs after_a after_b
added_reads a b after_a after_b relation row version reads first second =
    let same = same_transactions a b reads in
    reads_as after_a after_b
    (subst (λ ts. SameTransactions ts after_b.transactions) (sym first.transactions) (subst (SameTransactions a.transactions) (sym second.transactions) same))
    (λ r k.
    subst (λ ts. RowReads ts after_b.transactions (standing_versions after_a r k) (standing_versions after_b r k)) (sym first.transactions)
    (subst (λ us. RowReads a.transactions us (standing_versions after_a r k) (standing_versions after_b r k)) (sym second.transactions)
    (subst (λ vs. RowReads a.transactions b.transactions vs (standing_versions after_b r k)) (sym (first.versions r k))
    (subst (RowReads a.transactions b.transactions (with_first ((relation == r) && (row == k)) version (standing_versions a r k))) (sym (second.versions r k))
    (row_with_first a.transactions b.transactions same ((relation == r) && (row == k)) version (standing_versions a r k) (standing_versions b r k) (row_reads a b reads r k))))))

module _ (a b : Machine) (reads : ReadsAs a b) where
  -- An insertion, or a change that is done.
  module _ (who relation row : ℕ) (value : Option (List ℕ)) where
    abbrev put : Machine → Machine
    put m = with_version m (open_place m who) relation row value

    pub put_reads : ReadsAs (put a) (put b)
    put_reads = go (open_transaction a who) refl (open_transaction b who) refl (reads.means.same_open who)
      where
        go : (o : Option Transaction) → open_transaction a who ≡ o → (p : Option Transaction) → open_transaction b who ≡ p → IsSameOpen o p → ReadsAs (put a) (put b)
        go None is None was same = rw (adds_nothing a who relation row value is, adds_nothing b who relation row value was) reads
        go None is (Some u) was same = absurd same
        go (Some t) is None was same = absurd same
        go (Some t) is (Some u) was same =
            added_reads a b (put a) (put b) relation row (record { number = t.number; value = value }) reads (adds a who relation row value t is)
            (subst (λ n. Adds b (put b) relation row (record { number = n; value = value })) (sym same.number) (adds b who relation row value u was))

  -- Both machines agree on whether a change is done.
  lacking_is_not_done : (snapshot : List ℕ) (versions : List Version) → see versions (is_held snapshot) ≡ None → is_done snapshot versions ≡ false
  lacking_is_not_done snapshot [] none = refl
  lacking_is_not_done snapshot (version ∷ older) none = rw none refl

  same_done : (t u : Transaction) → IsSameTransaction t u → (versions others : List Version) → see versions (is_held t.snapshot) ≡ see others (is_held u.snapshot)
      → IsNewestOrLacks b.transactions (newest versions) (newest others) → is_done t.snapshot versions ≡ is_done u.snapshot others
  same_done t u same [] others seen lacks = sym (lacking_is_not_done u.snapshot others (sym seen))
  same_done t u same (version ∷ older) [] seen lacks = cc
  same_done t u same (version ∷ older) (other ∷ others) seen lacks =
      let one : other ≡ version = cc in
      λ i. is_some (seen i) && (same.snapshot version.number ∙ ap (λ (v : Version). is_held u.snapshot v.number) (sym one)) i

  module _ (who relation row : ℕ) (value : Option (List ℕ)) where
    abbrev changed : Machine → Machine
    changed m = after_change m who relation row value (open_transaction m who)

    pub change_reads : ReadsAs (changed a) (changed b)
    change_reads = go (open_transaction a who) (open_transaction b who) (reads.means.same_open who) (reads.means.seen who relation row)
      where
        where_done : (d e : Bool) → d ≡ e → ReadsAs (if d then put who relation row value a else a) (if e then put who relation row value b else b)
        where_done true true same = put_reads who relation row value
        where_done true false same = cc
        where_done false true same = cc
        where_done false false same = reads

        go : (o p : Option Transaction) → IsSameOpen o p → seen_in (standing_versions a relation row) o ≡ seen_in (standing_versions b relation row) p
            → ReadsAs (after_change a who relation row value o) (after_change b who relation row value p)
        go None None same seen = reads
        go None (Some u) same seen = absurd same
        go (Some t) None same seen = absurd same
        go (Some t) (Some u) same seen =
            where_done (is_done t.snapshot (standing_versions a relation row)) (is_done u.snapshot (standing_versions b relation row))
            (same_done t u same (standing_versions a relation row) (standing_versions b relation row) seen (reads.lacks relation row))
