-- Where an open transaction is open no more, and its number is marked committed, the later view shows what the earlier one shows
-- after the commit of its owner.
use Rattle.std.proofs.Common.{◌≡◌, ◌∙◌, ◌==◌, ℕ, zero, suc, Bool, true, false, List, [], ◌∷◌, refl, sym, ap, subst, find, map, if◌then◌else◌}
use Rattle.std.specs.Prelude.{Some, unwrap_or}
use Rattle.std.proofs.lemmas.List.{map-append}
use Rattle.fbc_kinds.specs.declared.snapshots.Standing.TheVariants as standing
use Rattle.fbc_kinds.specs.declared.snapshots.Transaction.{Transaction}
use Rattle.fbc_kinds.specs.Chain.{chain, state_of}
use Rattle.fbc_kinds.specs.Machine.{Machine, Made, after_end, ended, is_open, is_open_of}
use Rattle.fbc_kinds.specs.Meaning.{made_of, meaning_with, settled, transaction_of, transactions_up_to}
use Rattle.fbc_kinds.specs.View.{View, is_committed_state, next_of}
use Rattle.fbc_kinds.proofs.Meanings.{number_of-transaction_of}
use Rattle.fbc_kinds.proofs.Tests.{and_fails_left, and_fails_right, differ_from_test, same_from_test, test_of_different, test_of_same}
use Rattle.fbc_page_edits.specs.Alike.{HaveSameChains}
use Rattle.fbc_version_edits.specs.Open.{IsClosed}
use Rattle.fbc_version_edits.proofs.Living.{IsWho, living_one, settled_one, who_is}
use Rattle.fbc_runs.proofs.EndedOnes.{others_stay, own_ends}
use Rattle.fbc_meanings.specs.Beside.{IsApart}
use Rattle.fbc_meanings.proofs.AlikeOnes.{AreAlike, IsAlike, all_stand_alike, both_committed, one, push_alike}
use Rattle.fbc_meanings.proofs.MarkedOnes.{one_as}
use Rattle.fbc_meanings.proofs.Shown.{ShowTheSame, stand_alike_shows}

-- A number that no open transaction has is at its end.
pub settled_at : (view : View) (living : List Transaction) (number : ℕ) → IsClosed living number → transaction_of view living number ≡ settled view number
settled_at view living number closed = go (who_is view living number)
  where
    go : IsWho view living number → transaction_of view living number ≡ settled view number
    go (living_one at) = absurd (closed (transaction_of view living number) at (number_of-transaction_of view living number))
    go (settled_one none same) = same

-- The open transactions and one more: the one has its number, each other number is of the others.
pub own_of_more : (view : View) (living : List Transaction) (t : Transaction) (number : ℕ) → t.number ≡ number → transaction_of view (t ∷ living) number ≡ t
own_of_more view living t number same =
    ap (λ b. unwrap_or (if b then Some t else find (λ (u : Transaction). u.number == number) living) (settled view number)) (test_of_same t.number number same)

pub other_of_more : (view : View) (living : List Transaction) (t : Transaction) (number : ℕ) → ¬ (t.number ≡ number) → transaction_of view (t ∷ living) number ≡ transaction_of view living number
other_of_more view living t number differ =
    ap (λ b. unwrap_or (if b then Some t else find (λ (u : Transaction). u.number == number) living) (settled view number)) (test_of_different t.number number differ)

-- One that is apart is not what the others have.
pub not_own : (view : View) (living : List Transaction) (t : Transaction) → IsApart living t → (number : ℕ) → is_open_of t.owner (transaction_of view living number) ≡ false
not_own view living t apart number = go (who_is view living number)
  where
    settled_closed : (b : Bool) → is_open (if b then standing.Committed else standing.RolledBack) ≡ false
    settled_closed true = refl
    settled_closed false = refl

    go : IsWho view living number → is_open_of t.owner (transaction_of view living number) ≡ false
    go (living_one at) = and_fails_right (is_open (transaction_of view living number).standing) _ (test_of_different _ _ (apart.owner (transaction_of view living number) at))
    go (settled_one none same) =
        ap (is_open_of t.owner) same ∙ and_fails_left (is_open (settled view number).standing) _ (settled_closed (is_committed_state (state_of view number)))

module _ (view after : View) (living : List Transaction) (t : Transaction) (apart : IsApart living t) (opened : t.standing ≡ standing.Open)
    (committed : is_committed_state (state_of after t.number) ≡ true) (others : (number : ℕ) → ¬ (number ≡ t.number) → state_of after number ≡ state_of view number) where
  abbrev commit : Transaction → Transaction
  commit = ended t.owner standing.Committed

  own_alike : (number : ℕ) → t.number ≡ number → IsAlike (commit (transaction_of view (t ∷ living) number)) (transaction_of after living number)
  own_alike number same =
      let before = ap commit (own_of_more view living t number same) ∙ own_ends t.owner standing.Committed t (rw (opened, test_of_same t.owner t.owner refl) refl) in
      let closed : IsClosed living number = λ u lives is. apart.number u lives (is ∙ sym same) in
      let now = settled_at after living number closed in
      both_committed (ap (λ (u : Transaction). u.standing) before)
      (ap (λ (u : Transaction). u.standing) now ∙ ap (λ b. if b then standing.Committed else standing.RolledBack) (ap (λ n. is_committed_state (state_of after n)) (sym same) ∙ committed))
      (ap (λ (u : Transaction). u.number) now ∙ sym same ∙ sym (ap (λ (u : Transaction). u.number) before))

  other_alike : (number : ℕ) → ¬ (t.number ≡ number) → IsAlike (commit (transaction_of view (t ∷ living) number)) (transaction_of after living number)
  other_alike number differ =
      one
      (one_as living view after number (λ closed. ap is_committed_state (others number (λ same. differ (sym same))))
      ∙ sym (ap commit (other_of_more view living t number differ) ∙ others_stay t.owner standing.Committed (transaction_of view living number) (not_own view living t apart number)))

  each_alike : (number : ℕ) → IsAlike (commit (transaction_of view (t ∷ living) number)) (transaction_of after living number)
  each_alike number = go (t.number == number) refl
    where
      go : (b : Bool) → (t.number == number) ≡ b → IsAlike (commit (transaction_of view (t ∷ living) number)) (transaction_of after living number)
      go true is = own_alike number (same_from_test t.number number is)
      go false is = other_alike number (differ_from_test t.number number is)

  all_alike : (count : ℕ) → AreAlike (map commit (transactions_up_to view (t ∷ living) count)) (transactions_up_to after living count)
  all_alike zero = tt
  all_alike (suc count) =
      subst (λ ts. AreAlike ts (transactions_up_to after living (suc count))) (sym (map-append commit (transactions_up_to view (t ∷ living) count) (transaction_of view (t ∷ living) (suc count) ∷ [])))
      (push_alike (map commit (transactions_up_to view (t ∷ living) count)) (transactions_up_to after living count) (commit (transaction_of view (t ∷ living) (suc count))) (transaction_of after living (suc count))
      (all_alike count) (each_alike (suc count)))

  pub commit_shows : HaveSameChains view after → next_of after ≡ next_of view → ShowTheSame (after_end (meaning_with (t ∷ living) view) t.owner standing.Committed) (meaning_with living after)
  commit_shows chains next =
      let rows : ℕ → ℕ → List Made = λ relation row. map made_of (chain view relation row) in
      let same : Machine = record { rows = rows; transactions = transactions_up_to after living (next_of view) } in
      let later : same ≡ meaning_with living after = sym (λ i. record {
        rows = λ relation row. map made_of (chains relation row i);
        transactions = ap (transactions_up_to after living) next i;
      }) in
      subst (ShowTheSame (after_end (meaning_with (t ∷ living) view) t.owner standing.Committed)) later
      (stand_alike_shows rows (map commit (transactions_up_to view (t ∷ living) (next_of view))) (transactions_up_to after living (next_of view))
      (all_stand_alike (map commit (transactions_up_to view (t ∷ living) (next_of view))) (transactions_up_to after living (next_of view)) (all_alike (next_of view))))
