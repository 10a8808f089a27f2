-- A transaction more, at the end of the list.
use Rattle.std.proofs.Common.{◌≡◌, ◌∙◌, ◌<◌, ◌++◌, ℕ, zero, suc, Bool, true, false, not, ◌&&◌, ◌||◌, List, [], ◌∷◌, length, refl, sym, ap, subst, arith, map, find, filter, if◌then◌else◌}
use Rattle.std.specs.Prelude.{Option, Some, None, filter_map, slice_get}
use Rattle.std.specs.Option.{option_and_then}
use Rattle.fbc_kinds.specs.declared.snapshots.Standing.TheVariants as standing
use Rattle.fbc_kinds.specs.declared.snapshots.Transaction.{Transaction}
use Rattle.fbc_kinds.specs.Chain.{Version, see}
use Rattle.fbc_kinds.specs.Machine.{Machine, Made, committed_numbers, is_committed, is_held, is_held_by_open, is_open, is_open_of, numbered, standing_versions}
use Rattle.fbc_kinds.specs.Meaning.{IsSameOpen}
use Rattle.fbc_runs.specs.Reading.{IsNewestOrLacks, ReadsAs}
use Rattle.fbc_runs.proofs.RowReads.{RowReads, reads_as, row_reads, seen_in}

pub find_push : {X : Type 0} (test : X → Bool) (xs : List X) (x : X) → test x ≡ false → find test (xs ++ x ∷ []) ≡ find test xs
find_push test [] x fails = rw fails refl
find_push test (y ∷ ys) x fails = ap (λ o. if test y then Some y else o) (find_push test ys x fails)

pub find_last : {X : Type 0} (test : X → Bool) (xs : List X) (x : X) → test x ≡ true → find test xs ≡ None → find test (xs ++ x ∷ []) ≡ Some x
find_last test [] x passes none = rw passes refl
find_last {X} test (y ∷ ys) x passes none = go (test y) none (find_last test ys x passes)
  where
    go : (b : Bool) → (if b then Some y else find test ys) ≡ None → (find test ys ≡ None → find test (ys ++ x ∷ []) ≡ Some x) → (if b then Some y else find test (ys ++ x ∷ [])) ≡ Some x
    go true none later = cc
    go false none later = later none

filter_push : {X : Type 0} (test : X → Bool) (xs : List X) (x : X) → test x ≡ false → filter test (xs ++ x ∷ []) ≡ filter test xs
filter_push test [] x fails = rw fails refl
filter_push test (y ∷ ys) x fails = ap (λ kept. if test y then y ∷ kept else kept) (filter_push test ys x fails)

pub committed_push : (ts : List Transaction) (x : Transaction) → is_committed x.standing ≡ false → committed_numbers (ts ++ x ∷ []) ≡ committed_numbers ts
committed_push ts x fails = ap (map (λ (t : Transaction). t.number)) (filter_push (λ (t : Transaction). is_committed t.standing) ts x fails)

-- What each open snapshot holds, where the one more holds it too.
pub held_push : (ts : List Transaction) (x : Transaction) (number : ℕ) → (not (is_open x.standing) || is_held x.snapshot number) ≡ true → is_held_by_open (ts ++ x ∷ []) number ≡ is_held_by_open ts number
held_push [] x number holds = rw holds refl
held_push (t ∷ ts) x number holds = ap (λ b. (not (is_open t.standing) || is_held t.snapshot number) && b) (held_push ts x number holds)

pub before_last : {X : Type 0} (xs : List X) (x : X) (place : ℕ) → place < length xs → slice_get (xs ++ x ∷ []) place ≡ slice_get xs place
before_last [] x place lt = absurd (omega arith)
before_last (y ∷ ys) x zero lt = refl
before_last (y ∷ ys) x (suc place) lt = before_last ys x place (omega arith)

-- One that is rolled back.
module _ (ts : List Transaction) (x : Transaction) (rolled : x.standing ≡ standing.RolledBack) where
  abbrev longer : List Transaction
  longer = ts ++ x ∷ []

  same_found : (who : ℕ) → find (is_open_of who) longer ≡ find (is_open_of who) ts
  same_found who = find_push (is_open_of who) ts x (rw rolled refl)

  same_committed : committed_numbers longer ≡ committed_numbers ts
  same_committed = committed_push ts x (ap is_committed rolled)

  same_held : (number : ℕ) → is_held_by_open longer number ≡ is_held_by_open ts number
  same_held number = held_push ts x number (rw rolled refl)

  made_same : (value : Option (List ℕ)) (us : List Transaction) (place : ℕ) → option_and_then (numbered value) (slice_get (us ++ x ∷ []) place) ≡ option_and_then (numbered value) (slice_get us place)
  made_same value [] zero = rw rolled refl
  made_same value [] (suc place) = refl
  made_same value (t ∷ us) zero = refl
  made_same value (t ∷ us) (suc place) = made_same value us place

  versions_same : (rows : List Made)
      → filter_map (λ (v : Made). option_and_then (numbered v.value) (slice_get longer v.maker)) rows
      ≡ filter_map (λ (v : Made). option_and_then (numbered v.value) (slice_get ts v.maker)) rows
  versions_same [] = refl
  versions_same (v ∷ rows) = rw (made_same v.value ts v.maker, versions_same rows) refl

  lacks_longer : (p q : Option Version) → IsNewestOrLacks ts p q → IsNewestOrLacks longer p q
  lacks_longer (Some version) q is = is
  lacks_longer None None is = tt
  lacks_longer None (Some version) is = record {
    deletion = is.deletion;
    committed = ap (λ (numbers : List ℕ). is_held numbers version.number) same_committed ∙ is.committed;
    held = same_held version.number ∙ is.held;
  }

module _ (a b : Machine) (x : Transaction) (rolled : x.standing ≡ standing.RolledBack) (reads : ReadsAs a b) where
  pub longer_reads : (let longer : Machine = record a { transactions = a.transactions ++ x ∷ [] } in ReadsAs longer b)
  longer_reads =
      let longer : Machine = record a { transactions = a.transactions ++ x ∷ [] } in
      reads_as longer b
      (record {
        opened = λ who. subst (λ o. IsSameOpen o (find (is_open_of who) b.transactions)) (sym (same_found a.transactions x rolled who)) (reads.means.same_open who);
        committed = λ number. ap (λ (numbers : List ℕ). is_held numbers number) (same_committed a.transactions x rolled) ∙ reads.means.committed number;
      })
      (λ relation row.
      subst (λ vs. RowReads longer.transactions b.transactions vs (standing_versions b relation row)) (sym (versions_same a.transactions x rolled (a.rows relation row)))
      (let was = row_reads a b reads relation row in record {
        seen = λ who. ap (seen_in (standing_versions a relation row)) (same_found a.transactions x rolled who) ∙ was.seen who;
        committed = ap (λ (numbers : List ℕ). see (standing_versions a relation row) (is_held numbers)) (same_committed a.transactions x rolled) ∙ was.committed;
        lacks = was.lacks;
      }))

  pub reads_longer : (let longer : Machine = record b { transactions = b.transactions ++ x ∷ [] } in ReadsAs a longer)
  reads_longer =
      let longer : Machine = record b { transactions = b.transactions ++ x ∷ [] } in
      reads_as a longer
      (record {
        opened = λ who. subst (IsSameOpen (find (is_open_of who) a.transactions)) (sym (same_found b.transactions x rolled who)) (reads.means.same_open who);
        committed = λ number. reads.means.committed number ∙ sym (ap (λ (numbers : List ℕ). is_held numbers number) (same_committed b.transactions x rolled));
      })
      (λ relation row.
      subst (RowReads a.transactions longer.transactions (standing_versions a relation row)) (sym (versions_same b.transactions x rolled (b.rows relation row)))
      (let was = row_reads a b reads relation row in record {
        seen = λ who. was.seen who ∙ sym (ap (seen_in (standing_versions b relation row)) (same_found b.transactions x rolled who));
        committed = was.committed ∙ sym (ap (λ (numbers : List ℕ). see (standing_versions b relation row) (is_held numbers)) (same_committed b.transactions x rolled));
        lacks = lacks_longer b.transactions x rolled _ _ was.lacks;
      }))
