-- The commit of an owner on both machines, whether it has an open transaction or none.
use Rattle.std.proofs.Common.{◌≡◌, ℕ, Bool, true, false, List, [], ◌∷◌, refl, sym, ap, subst, map, find, if◌then◌else◌}
use Rattle.std.specs.Prelude.{Option, Some, None}
use Rattle.fbc_kinds.specs.declared.snapshots.Standing.{Standing}
use Rattle.fbc_kinds.specs.declared.snapshots.Standing.TheVariants as standing
use Rattle.fbc_kinds.specs.declared.snapshots.Transaction.{Transaction}
use Rattle.fbc_kinds.specs.Machine.{Machine, after_end, ended, is_open_of, open_transaction, standing_versions}
use Rattle.fbc_kinds.specs.Meaning.{IsSameOpen}
use Rattle.fbc_runs.specs.Orderly.{IsInFront, OwnersDiffer}
use Rattle.fbc_runs.specs.Reading.{ReadsAs}
use Rattle.fbc_runs.proofs.CommitsRead.{IsNewestOf, committed_reads}
use Rattle.fbc_runs.proofs.CommittedOnes.{Commits, commits}
use Rattle.fbc_runs.proofs.EndedOnes.{with_same}

-- Without an open transaction an end changes nothing.
none_ends : (who : ℕ) (now : Standing) (ts : List Transaction) → find (is_open_of who) ts ≡ None → map (ended who now) ts ≡ ts
none_ends who now [] none = refl
none_ends who now (t ∷ ts) none = go (is_open_of who t) none (none_ends who now ts)
  where
    go : (b : Bool) → (if b then Some t else find (is_open_of who) ts) ≡ None → (find (is_open_of who) ts ≡ None → map (ended who now) ts ≡ ts)
        → (if b then record t { standing = now } else t) ∷ map (ended who now) ts ≡ t ∷ ts
    go true none later = cc
    go false none later = ap (λ us. t ∷ us) (later none)

pub nothing_ends : (m : Machine) (who : ℕ) (now : Standing) → open_transaction m who ≡ None → after_end m who now ≡ m
nothing_ends m who now none = with_same m _ _ (none_ends who now m.transactions none)

in_front_of : (m : Machine) (who : ℕ) (t : Transaction) → IsInFront m who → open_transaction m who ≡ Some t → (relation row : ℕ) → IsNewestOf t.number (standing_versions m relation row)
in_front_of m who t front found relation row has = front relation row t has.version found has.at has.same

pub commit_reads : (a b : Machine) (who : ℕ) → ReadsAs a b → IsInFront a who → IsInFront b who → OwnersDiffer a.transactions → OwnersDiffer b.transactions → ReadsAs (after_end a who standing.Committed) (after_end b who standing.Committed)
commit_reads a b who reads front also differ apart = go (open_transaction a who) refl (open_transaction b who) refl (reads.means.same_open who)
  where
    go : (o : Option Transaction) → open_transaction a who ≡ o → (p : Option Transaction) → open_transaction b who ≡ p → IsSameOpen o p → ReadsAs (after_end a who standing.Committed) (after_end b who standing.Committed)
    go None is None was same = rw (nothing_ends a who standing.Committed is, nothing_ends b who standing.Committed was) reads
    go None is (Some u) was same = absurd same
    go (Some t) is None was same = absurd same
    go (Some t) is (Some u) was same =
        committed_reads a b (after_end a who standing.Committed) (after_end b who standing.Committed) who t.number reads (commits who a t is differ)
        (subst (Commits b (after_end b who standing.Committed) who) (sym same.number) (commits who b u was apart))
        (in_front_of a who t front is)
        (λ relation row. subst (λ n. IsNewestOf n (standing_versions b relation row)) (sym same.number) (in_front_of b who u also was relation row))
