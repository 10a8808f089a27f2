-- A version in front of a row is a command of the machine that the view means.
use Rattle.std.proofs.Common.{◌≡◌, ◌∙◌, ◌<◌, ◌≤◌, ◌-◌, ◌%◌, ◌/◌, ◌==◌, ◌&&◌, ℕ, Bool, true, false, List, ◌∷◌, refl, sym, ap, subst, map, filter, if◌then◌else◌}
use Rattle.std.specs.Prelude.{Option, Some, None, is_some, Contains, filter_map, slice_get}
use Rattle.std.specs.List.{cons_option}
use Rattle.std.specs.Option.{option_and_then}
use Rattle.fbc_kinds.specs.declared.snapshots.Transaction.{Transaction}
use Rattle.fbc_kinds.specs.Chain.{Version, cells_of, chain}
use Rattle.fbc_kinds.specs.Machine.{Made, after_change, is_done, is_held, is_rolled_back, numbered, open_place, open_transaction, standing_versions, with_version}
use Rattle.fbc_kinds.specs.Meaning.{made_of, meaning_with, transactions_up_to}
use Rattle.fbc_kinds.specs.Reach.{DataRole}
use Rattle.fbc_kinds.specs.Sound.{IsSound}
use Rattle.fbc_kinds.specs.View.{View, next_of}
use Rattle.fbc_kinds.proofs.Meanings.{is_standing}
use Rattle.fbc_kinds.proofs.Tests.{differ_from_test, same_from_test, test_of_same}
use Rattle.fbc_page_edits.proofs.Division.{same_from_parts}
use Rattle.fbc_page_edits.specs.Alike.{HaveSameStates}
use Rattle.fbc_page_edits.specs.Facing.{IsRowAt}
use Rattle.fbc_version_edits.specs.Differences.{IsPlace}
use Rattle.fbc_version_edits.specs.Open.{AreOpen}
use Rattle.fbc_version_edits.proofs.Living.{open_place_is, open_transaction_is, stands_own}
use Rattle.fbc_version_edits.proofs.ChainNumbers.{AreBegun}
use Rattle.fbc_version_edits.proofs.Sights.{see_first}
use Rattle.fbc_version_edits.proofs.Standing.{standing_first, transactions_stay}

-- One row alone has its top in a cell.
pub one_row : (view : View) → IsSound view → (relation row other_relation other_row page cell : ℕ) → IsRowAt view relation row page cell → IsRowAt view other_relation other_row page cell
    → IsPlace relation row other_relation other_row
one_row view sound relation row other_relation other_row page cell at also =
    let role : DataRole other_relation (other_row / cells_of view other_relation) ≡ DataRole relation (row / cells_of view relation) =
    sound.once (DataRole other_relation (other_row / cells_of view other_relation)) (DataRole relation (row / cells_of view relation)) page also.named at.named in
    let relation_is : other_relation ≡ relation = cc in
    let sequence : other_row / cells_of view other_relation ≡ row / cells_of view relation = cc in
    let count = ap (cells_of view) relation_is in
    let quotient : other_row / cells_of view relation ≡ row / cells_of view relation = ap (λ n. other_row / n) (sym count) ∙ sequence in
    let rest : other_row % cells_of view relation ≡ row % cells_of view relation = ap (λ n. other_row % n) (sym count) ∙ also.place ∙ sym at.place in
    (relation_is, same_from_parts (cells_of view relation) other_row row quotient rest)

module _ (living : List Transaction) (view after : View) (states : HaveSameStates view after) (next : next_of after ≡ next_of view) (relation row : ℕ) (version : Version)
    (here : chain after relation row ≡ version ∷ chain view relation row)
    (others : (other_relation other_row : ℕ) → ¬ IsPlace relation row other_relation other_row → chain after other_relation other_row ≡ chain view other_relation other_row) where
  rows_in_front : (r k : ℕ)
      → (if (relation == r) && (row == k) then made_of version ∷ map made_of (chain view r k) else map made_of (chain view r k)) ≡ map made_of (chain after r k)
  rows_in_front r k = go (relation == r) refl (row == k) refl
    where
      go : (a : Bool) → (relation == r) ≡ a → (b : Bool) → (row == k) ≡ b → (if a && b then made_of version ∷ map made_of (chain view r k) else map made_of (chain view r k)) ≡ map made_of (chain after r k)
      go true is true also =
          let one = same_from_test relation r is in
          let two = same_from_test row k also in
          let P : ℕ → ℕ → Type 0 = λ r k. made_of version ∷ map made_of (chain view r k) ≡ map made_of (chain after r k) in
          subst (λ r. P r k) one (subst (λ k. P relation k) two (sym (ap (map made_of) here)))
      go true is false also = ap (map made_of) (sym (others r k (λ at. differ_from_test row k also (sym at.1))))
      go false is b also = ap (map made_of) (sym (others r k (λ at. differ_from_test relation r is (sym at.0))))

  -- The machine with the version in front is the later view's.
  pub in_front : with_version (meaning_with living view) (Some (version.number - 1)) relation row version.value ≡ meaning_with living after
  in_front = λ i. record {
    rows = λ r k. rows_in_front r k i;
    transactions = sym (transactions_stay living view after states next) i;
  }

-- Where the newest version is held and has a value, a change is done.
pub done_first : (snapshot : List ℕ) (version : Version) (older : List Version) → is_held snapshot version.number ≡ true → is_some version.value ≡ true → is_done snapshot (version ∷ older) ≡ true
done_first snapshot version older held some = rw (see_first (is_held snapshot) version older held, some, held) refl

module _ (living : List Transaction) (view : View) (open_ones : AreOpen living) (t : Transaction) (lives : Contains living t) (above : 0 < t.number) (within : t.number ≤ next_of view) where
  -- What an open transaction puts in front of a row.
  pub put_by : (relation row : ℕ) (value : Option (List ℕ))
      → with_version (meaning_with living view) (open_place (meaning_with living view) t.owner) relation row value ≡ with_version (meaning_with living view) (Some (t.number - 1)) relation row value
  put_by relation row value = ap (λ o. with_version (meaning_with living view) o relation row value) (open_place_is view living open_ones t lives above within)

  -- A change of its own, where it is done.
  pub changed_by : (relation row : ℕ) (value : Option (List ℕ)) → is_done t.snapshot (standing_versions (meaning_with living view) relation row) ≡ true
      → after_change (meaning_with living view) t.owner relation row value (open_transaction (meaning_with living view) t.owner)
      ≡ with_version (meaning_with living view) (Some (t.number - 1)) relation row value
  changed_by relation row value done =
      ap (after_change (meaning_with living view) t.owner relation row value) (open_transaction_is view living open_ones t lives above within)
      ∙ ap (λ b. if b then with_version (meaning_with living view) (open_place (meaning_with living view) t.owner) relation row value else meaning_with living view) done
      ∙ put_by relation row value

  -- The versions that stand in the row that got one more, and in the others.
  pub stands_in_front : (relation row : ℕ) (value : Option (List ℕ))
      → standing_versions (with_version (meaning_with living view) (Some (t.number - 1)) relation row value) relation row
      ≡ (record { number = t.number; value = value }) ∷ standing_versions (meaning_with living view) relation row
  stands_in_front relation row value =
      ap (λ b. filter_map stands (if b then (record { maker = t.number - 1; value = value }) ∷ rows else rows)) test
      ∙ ap (λ o. cons_option (option_and_then (numbered value) o) (filter_map stands rows)) (stands_own view living open_ones t lives above within)
      ∙ ap (λ s. cons_option (if is_rolled_back s then None else Some (record { number = t.number; value = value })) (filter_map stands rows)) (open_ones.opened t lives)
    where
      rows : List Made
      rows = map made_of (chain view relation row)

      stands : Made → Option Version
      stands v = option_and_then (numbered v.value) (slice_get (transactions_up_to view living (next_of view)) v.maker)

      test : ((relation == relation) && (row == row)) ≡ true
      test = rw (test_of_same relation relation refl, test_of_same row row refl) refl

  pub stands_elsewhere : (relation row : ℕ) (value : Option (List ℕ)) (r k : ℕ) → ¬ IsPlace relation row r k
      → standing_versions (with_version (meaning_with living view) (Some (t.number - 1)) relation row value) r k ≡ standing_versions (meaning_with living view) r k
  stands_elsewhere relation row value r k differ =
      ap (λ b. filter_map stands (if b then (record { maker = t.number - 1; value = value }) ∷ rows else rows)) (test (relation == r) refl (row == k) refl)
    where
      rows : List Made
      rows = map made_of (chain view r k)

      stands : Made → Option Version
      stands v = option_and_then (numbered v.value) (slice_get (transactions_up_to view living (next_of view)) v.maker)

      test : (a : Bool) → (relation == r) ≡ a → (b : Bool) → (row == k) ≡ b → ((relation == r) && (row == k)) ≡ false
      test true is true also = absurd (differ (sym (same_from_test relation r is), sym (same_from_test row k also)))
      test true is false also = rw (is, also) refl
      test false is b also = rw is refl

  -- A change is done where the newest version that stands is held and has a value.
  pub done_at : (relation row : ℕ) (version : Version) (older : List Version) → AreBegun view (chain view relation row) → chain view relation row ≡ version ∷ older → is_standing view living version ≡ true
      → is_held t.snapshot version.number ≡ true → is_some version.value ≡ true → is_done t.snapshot (standing_versions (meaning_with living view) relation row) ≡ true
  done_at relation row version older begun whole stands held some =
      ap (is_done t.snapshot) (standing_first view living relation row version older begun whole stands)
      ∙ done_first t.snapshot version (filter (is_standing view living) older) held some
