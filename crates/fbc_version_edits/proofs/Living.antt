-- The transactions that a view means: those that are open, those that are committed, and who is which.
use Rattle.std.proofs.Common.{◌≡◌, ◌≢◌, ◌∙◌, ◌<◌, ◌≤◌, ◌+◌, ◌-◌, ◌==◌, ◌&&◌, ◌||◌, ℕ, zero, suc, Bool, true, false, not, List, [], ◌∷◌, ◌⊎◌, inl, inr, refl, sym, ap, subst, arith, find, if◌then◌else◌}
use Rattle.std.specs.Prelude.{Option, Some, None, Contains, slice_get, unwrap_or}
use Rattle.std.proofs.lemmas.List.Elements.{Contains-push_cases}
use Rattle.std.proofs.lemmas.List.Folds.{list_all-append}
use Rattle.std.proofs.lemmas.Option.{same_Some}
use Rattle.fbc_kinds.specs.declared.snapshots.Standing.TheVariants as standing
use Rattle.fbc_kinds.specs.declared.snapshots.Transaction.{Transaction}
use Rattle.fbc_kinds.specs.Chain.{state_of}
use Rattle.fbc_kinds.specs.Machine.{committed_numbers, is_committed, is_held, is_held_by_open, is_open, is_open_of, is_rolled_back, open_place, open_transaction}
use Rattle.fbc_kinds.specs.Meaning.{meaning_with, settled, transaction_of, transactions_up_to}
use Rattle.fbc_kinds.specs.View.{View, is_committed_state, next_of}
use Rattle.fbc_kinds.proofs.Meanings.{number_of-transaction_of, transaction_at}
use Rattle.fbc_kinds.proofs.Heads.{both_pass}
use Rattle.fbc_kinds.proofs.Tests.{and_fails_right, differ_from_test, same_from_test, test_of_same}
use Rattle.fbc_version_edits.specs.Open.{AreOpen, IsClosed, IsHeldByAll}
use Rattle.fbc_version_edits.proofs.Finds.{found_at, found_in, none_passes, place_of}

module _ (view : View) (living : List Transaction) where
  -- A number's transaction is an open one, or settled by its mark.
  pub data IsWho (number : ℕ) : Type 0 where
    living_one : Contains living (transaction_of view living number) → IsWho number
    settled_one : IsClosed living number → transaction_of view living number ≡ settled view number → IsWho number

  pub who_is : (number : ℕ) → IsWho number
  who_is number = go (find (λ (t : Transaction). t.number == number) living) refl
    where
      go : (found : Option Transaction) → find (λ (t : Transaction). t.number == number) living ≡ found → IsWho number
      go None is =
          settled_one (λ t at same. (let fails = none_passes (λ (u : Transaction). u.number == number) living t is at in differ_from_test t.number number fails same))
          (ap (λ o. unwrap_or o (settled view number)) is)
      go (Some t) is =
          let same : transaction_of view living number ≡ t = ap (λ o. unwrap_or o (settled view number)) is in
          living_one (subst (Contains living) (sym same) (found_in (λ (u : Transaction). u.number == number) living t is).0)

  -- A number that no open transaction has is committed or rolled back, as it is marked.
  closed_standing : (number : ℕ) → IsClosed living number → transaction_of view living number ≡ settled view number
  closed_standing number closed = go (who_is number)
    where
      go : IsWho number → transaction_of view living number ≡ settled view number
      go (living_one at) = absurd (closed (transaction_of view living number) at (number_of-transaction_of view living number))
      go (settled_one none same) = same

  pub rolled_back : (number : ℕ) → IsClosed living number → is_committed_state (state_of view number) ≡ false → is_rolled_back (transaction_of view living number).standing ≡ true
  rolled_back number closed fails =
      ap (λ (t : Transaction). is_rolled_back t.standing) (closed_standing number closed)
      ∙ ap (λ b. is_rolled_back (if b then standing.Committed else standing.RolledBack)) fails

  pub committed_one : (number : ℕ) → IsClosed living number → is_committed_state (state_of view number) ≡ true → is_committed (transaction_of view living number).standing ≡ true
  committed_one number closed holds =
      ap (λ (t : Transaction). is_committed t.standing) (closed_standing number closed)
      ∙ ap (λ b. is_committed (if b then standing.Committed else standing.RolledBack)) holds

  -- An item of the list of transactions is that of a number.
  pub some_number : (count : ℕ) (t : Transaction) → Contains (transactions_up_to view living count) t → (number : ℕ) × (transaction_of view living number ≡ t)
  some_number zero t at = absurd (omega (arith, at.1))
  some_number (suc count) t at = go (Contains-push_cases (transactions_up_to view living count) (transaction_of view living (suc count)) t at) (some_number count t)
    where
      go : Contains (transactions_up_to view living count) t ⊎ (transaction_of view living (suc count) ≡ t) → (Contains (transactions_up_to view living count) t → (number : ℕ) × (transaction_of view living number ≡ t))
          → (number : ℕ) × (transaction_of view living number ≡ t)
      go (inl earlier) later = later earlier
      go (inr same) later = (suc count, same)

  settled_not_open : (b : Bool) → is_open (if b then standing.Committed else standing.RolledBack) ≡ false
  settled_not_open true = refl
  settled_not_open false = refl

  -- One that is open is one of the open ones.
  pub open_lives : (number : ℕ) → is_open (transaction_of view living number).standing ≡ true → Contains living (transaction_of view living number)
  open_lives number is = go (who_is number)
    where
      go : IsWho number → Contains living (transaction_of view living number)
      go (living_one at) = at
      go (settled_one none same) =
          let fails : is_open (transaction_of view living number).standing ≡ false = ap (λ (t : Transaction). is_open t.standing) same ∙ settled_not_open (is_committed_state (state_of view number)) in
          cc

  pub found_lives : (count who : ℕ) (t : Transaction) → find (is_open_of who) (transactions_up_to view living count) ≡ Some t → Contains living t
  found_lives count who t is =
      let found = found_in (is_open_of who) (transactions_up_to view living count) t is in
      let of = some_number count t found.0 in
      let opened : is_open (transaction_of view living of.0).standing ≡ true = ap (λ (u : Transaction). is_open u.standing) of.1 ∙ (both_pass (is_open t.standing) (t.owner == who) found.1).0 in
      subst (Contains living) of.1 (open_lives of.0 opened)

  -- A number that each open snapshot holds is held by the open ones of the list.
  pub held_by_open : (number count : ℕ) → IsHeldByAll living number → is_held_by_open (transactions_up_to view living count) number ≡ true
  held_by_open number zero held = refl
  held_by_open number (suc count) held =
      list_all-append (λ (t : Transaction). not (is_open t.standing) || is_held t.snapshot number) (transactions_up_to view living count) (transaction_of view living (suc count) ∷ [])
      ∙ go (is_open (transaction_of view living (suc count)).standing) refl (held_by_open number count held)
    where
      go : (b : Bool) → is_open (transaction_of view living (suc count)).standing ≡ b → is_held_by_open (transactions_up_to view living count) number ≡ true
          → (is_held_by_open (transactions_up_to view living count) number && ((not (is_open (transaction_of view living (suc count)).standing) || is_held (transaction_of view living (suc count)).snapshot number) && true)) ≡ true
      go true is earlier = rw (earlier, is, held (transaction_of view living (suc count)) (open_lives (suc count) is)) refl
      go false is earlier = rw (earlier, is) refl

  -- A number that is committed, and not open, is among the committed ones.
  pub committed_held : (number : ℕ) → 0 < number → number ≤ next_of view → IsClosed living number → is_committed_state (state_of view number) ≡ true
      → is_held (committed_numbers (transactions_up_to view living (next_of view))) number ≡ true
  committed_held number above within closed is =
      let place : suc (number - 1) ≡ number = omega arith in
      let stands = transaction_at view living (next_of view) (number - 1) (omega arith) ∙ ap (λ n. Some (transaction_of view living n)) place in
      among (transactions_up_to view living (next_of view)) (number - 1) stands
    where
      among : (ts : List Transaction) (k : ℕ) → slice_get ts k ≡ Some (transaction_of view living number) → is_held (committed_numbers ts) number ≡ true
      among [] k at = cc
      among (t ∷ ts) zero at =
          let same : t ≡ transaction_of view living number = same_Some t (transaction_of view living number) at in
          let committed : is_committed t.standing ≡ true = ap (λ (u : Transaction). is_committed u.standing) same ∙ committed_one number closed is in
          let numbered : (t.number == number) ≡ true = test_of_same t.number number (ap (λ (u : Transaction). u.number) same ∙ number_of-transaction_of view living number) in
          rw (committed, numbered) refl
      among (t ∷ ts) (suc k) at = go (is_committed t.standing) refl (among ts k at)
        where
          or_true : (a b : Bool) → b ≡ true → (a || b) ≡ true
          or_true true b also = refl
          or_true false b also = also

          go : (b : Bool) → is_committed t.standing ≡ b → is_held (committed_numbers ts) number ≡ true → is_held (committed_numbers (t ∷ ts)) number ≡ true
          go true committed later = rw committed (or_true (t.number == number) _ later)
          go false committed later = rw committed later

-- Where the open ones are apart, each is found by its number and by its owner.
module _ (view : View) (living : List Transaction) (open_ones : AreOpen living) (t : Transaction) (lives : Contains living t) where
  pub own_transaction : transaction_of view living t.number ≡ t
  own_transaction = go (who_is view living t.number)
    where
      go : IsWho view living t.number → transaction_of view living t.number ≡ t
      go (living_one at) = open_ones.one_number (transaction_of view living t.number) t at lives (number_of-transaction_of view living t.number)
      go (settled_one none same) = absurd (none t lives refl)

  is_own : is_open_of t.owner t ≡ true
  is_own = rw (open_ones.opened t lives, test_of_same t.owner t.owner refl) refl

  not_own : (number : ℕ) → number ≢ t.number → is_open_of t.owner (transaction_of view living number) ≡ false
  not_own number differ = go (is_open (transaction_of view living number).standing) refl ((transaction_of view living number).owner == t.owner) refl
    where
      go : (a : Bool) → is_open (transaction_of view living number).standing ≡ a → (b : Bool) → ((transaction_of view living number).owner == t.owner) ≡ b
          → is_open_of t.owner (transaction_of view living number) ≡ false
      go false is b also = rw is refl
      go true is false also = and_fails_right (is_open (transaction_of view living number).standing) _ also
      go true is true also =
          let one = open_ones.one_owner (transaction_of view living number) t (open_lives view living number is) lives (same_from_test _ _ also) in
          absurd (differ (sym (number_of-transaction_of view living number) ∙ ap (λ (u : Transaction). u.number) one))

  module _ (above : 0 < t.number) (within : t.number ≤ next_of view) where
    pub stands_own : slice_get (transactions_up_to view living (next_of view)) (t.number - 1) ≡ Some t
    stands_own =
        let place : suc (t.number - 1) ≡ t.number = omega arith in
        transaction_at view living (next_of view) (t.number - 1) (omega arith) ∙ ap (λ n. Some (transaction_of view living n)) place ∙ ap Some own_transaction

    none_before : (k : ℕ) (w : Transaction) → k < t.number - 1 → slice_get (transactions_up_to view living (next_of view)) k ≡ Some w → is_open_of t.owner w ≡ false
    none_before k w lt at =
        let same : w ≡ transaction_of view living (suc k) = same_Some w _ (sym at ∙ transaction_at view living (next_of view) k (omega arith)) in
        let differ : suc k ≢ t.number = λ e. absurd (omega arith) in
        ap (is_open_of t.owner) same ∙ not_own (suc k) differ

    pub open_transaction_is : open_transaction (meaning_with living view) t.owner ≡ Some t
    open_transaction_is = found_at (is_open_of t.owner) (transactions_up_to view living (next_of view)) (t.number - 1) t stands_own is_own none_before

    pub open_place_is : open_place (meaning_with living view) t.owner ≡ Some (t.number - 1)
    open_place_is =
        let start : 0 + (t.number - 1) ≡ t.number - 1 = omega arith in
        place_of (is_open_of t.owner) (transactions_up_to view living (next_of view)) 0 (t.number - 1) t stands_own is_own none_before ∙ ap Some start
