-- A transaction that begins with the next number stands last in what the view means, where one that is rolled back stood.
use Rattle.std.proofs.Common.{◌≡◌, ◌∙◌, ◌<◌, ◌++◌, ◌==◌, ℕ, zero, suc, Bool, true, false, not, List, [], ◌∷◌, refl, sym, ap, subst, arith, find, filter, if◌then◌else◌}
use Rattle.std.specs.Prelude.{Option, Some, None, All, Contains}
use Rattle.std.proofs.lemmas.List.Elements.{All-head, All-tail, All-contains, All-filter, All-weaker}
use Rattle.fbc_kinds.specs.declared.shapes.Shape.{Shape}
use Rattle.fbc_kinds.specs.declared.snapshots.Standing.TheVariants as standing
use Rattle.fbc_kinds.specs.declared.snapshots.Transaction.{Transaction}
use Rattle.fbc_kinds.specs.Chain.{Version, chain, state_of}
use Rattle.fbc_kinds.specs.Machine.{committed_numbers, is_committed, is_held, is_held_by_open, is_open, is_open_of, is_rolled_back, open_transaction, standing_versions}
use Rattle.fbc_kinds.specs.Meaning.{meaning_with, transaction_of, transactions_up_to}
use Rattle.fbc_kinds.specs.Sound.{IsSound}
use Rattle.fbc_kinds.specs.View.{View, is_committed_state, next_of}
use Rattle.fbc_kinds.proofs.Meanings.{is_standing, standing_versions-meaning_with}
use Rattle.fbc_kinds.proofs.Heads.{both_pass}
use Rattle.fbc_kinds.proofs.Tests.{same_from_test, test_of_different}
use Rattle.fbc_page_edits.specs.Edited.{IsOfShape}
use Rattle.fbc_page_edits.proofs.NextMeaning.{not_committed}
use Rattle.fbc_version_edits.specs.Open.{AreOpen, IsClosed}
use Rattle.fbc_version_edits.proofs.ChainNumbers.{chain_begun}
use Rattle.fbc_version_edits.proofs.Finds.{found_in}
use Rattle.fbc_version_edits.proofs.Living.{found_lives, open_transaction_is}
use Rattle.fbc_runs.specs.Reading.{Gains}
use Rattle.fbc_runs.proofs.Numbers.{first_in}
use Rattle.fbc_runs.proofs.Pushed.{committed_push, find_push, held_push}
use Rattle.fbc_meanings.specs.Beside.{IsApart}
use Rattle.fbc_meanings.proofs.Committing.{other_of_more, own_of_more, settled_at}
use Rattle.fbc_meanings.proofs.Older.{chain_below_next}

-- Lists that two tests agree on.
filter_same : (test other : Version → Bool) (versions : List Version) → All (λ v. test v ≡ other v) versions → filter test versions ≡ filter other versions
filter_same test other [] all = refl
filter_same test other (version ∷ older) all =
    let rest = filter_same test other older (All-tail (λ v. test v ≡ other v) version older all) in
    let here = All-head (λ v. test v ≡ other v) version older all in
    λ i. if here i then version ∷ rest i else rest i

module _ (view : View) (living : List Transaction) (t : Transaction) where
  -- The numbers before its own have the transactions that they had.
  before_same : (count : ℕ) → count < t.number → transactions_up_to view (t ∷ living) count ≡ transactions_up_to view living count
  before_same zero lt = refl
  before_same (suc count) lt =
      let differ : ¬ (t.number ≡ suc count) = λ same. absurd (omega arith) in
      let rest = before_same count (omega arith) in
      let here = other_of_more view living t (suc count) differ in
      λ i. rest i ++ here i ∷ []

  -- The versions of lower numbers that stand.
  pub lower_stand : (versions : List Version) → All (λ (v : Version). v.number < t.number) versions → filter (is_standing view (t ∷ living)) versions ≡ filter (is_standing view living) versions
  lower_stand versions all =
      filter_same (is_standing view (t ∷ living)) (is_standing view living) versions
      (All-weaker (λ (v : Version). v.number < t.number) (λ v. is_standing view (t ∷ living) v ≡ is_standing view living v)
      (λ v lower. ap (λ (u : Transaction). not (is_rolled_back u.standing)) (other_of_more view living t v.number (λ same. absurd (omega (arith, lower)))))
      versions all)

  module _ (opened : t.standing ≡ standing.Open) (apart : IsApart living t) (count : ℕ) (place : t.number ≡ suc count) (fails : is_committed_state (state_of view (suc count)) ≡ false) where
    abbrev earlier : List Transaction
    earlier = transactions_up_to view living count

    abbrev gone : Transaction
    gone = transaction_of view living (suc count)

    gone_is : gone.standing ≡ standing.RolledBack
    gone_is =
        ap (λ (u : Transaction). u.standing) (settled_at view living (suc count) (subst (λ n. IsClosed living n) place apart.number))
        ∙ ap (λ b. if b then standing.Committed else standing.RolledBack) fails

    pub last_is : transactions_up_to view (t ∷ living) (suc count) ≡ earlier ++ t ∷ []
    last_is =
        let rest = before_same count (omega (arith, place)) in
        let here = own_of_more view living t (suc count) place in
        λ i. rest i ++ here i ∷ []

    pub others_found : (other : ℕ) → ¬ (other ≡ t.owner) → find (is_open_of other) (transactions_up_to view (t ∷ living) (suc count)) ≡ find (is_open_of other) (transactions_up_to view living (suc count))
    others_found other differ =
        ap (find (is_open_of other)) last_is
        ∙ find_push (is_open_of other) earlier t (rw (opened, test_of_different t.owner other (λ same. differ (sym same))) refl)
        ∙ sym (find_push (is_open_of other) earlier gone (rw gone_is refl))

    pub committed_same : committed_numbers (transactions_up_to view (t ∷ living) (suc count)) ≡ committed_numbers (transactions_up_to view living (suc count))
    committed_same =
        ap committed_numbers last_is
        ∙ committed_push earlier t (ap is_committed opened)
        ∙ sym (committed_push earlier gone (ap is_committed gone_is))

    pub held_after : (number : ℕ) → is_held_by_open (transactions_up_to view living (suc count)) number ≡ true → is_held t.snapshot number ≡ true → is_held_by_open (transactions_up_to view (t ∷ living) (suc count)) number ≡ true
    held_after number all holds =
        ap (λ (ts : List Transaction). is_held_by_open ts number) last_is
        ∙ held_push earlier t number (rw (opened, holds) refl)
        ∙ sym (held_push earlier gone number (rw gone_is refl))
        ∙ all

module _ (shape : Shape) (view : View) (living : List Transaction) (of_shape : IsOfShape shape view) (sound : IsSound view) where
  -- The versions that stand in a row have lower numbers than the next one.
  pub none_has_next : (relation row : ℕ) (version : Version) → Contains (standing_versions (meaning_with living view) relation row) version → version.number < next_of view
  none_has_next relation row version at =
      All-contains (λ (v : Version). v.number < next_of view) (filter (is_standing view living) (chain view relation row)) version
      (All-filter (is_standing view living) (λ (v : Version). v.number < next_of view) (chain view relation row) (chain_below_next view sound relation row))
      (subst (λ versions. Contains versions version) (standing_versions-meaning_with view living relation row (chain_begun shape view of_shape sound relation row)) at)

  module _ (t : Transaction) (open_ones : AreOpen (t ∷ living)) (apart : IsApart living t) (next : t.number ≡ next_of view) (above : 0 < t.number) where
    versions_stay : (relation row : ℕ) → standing_versions (meaning_with (t ∷ living) view) relation row ≡ standing_versions (meaning_with living view) relation row
    versions_stay relation row =
        let begun = chain_begun shape view of_shape sound relation row in
        standing_versions-meaning_with view (t ∷ living) relation row begun
        ∙ lower_stand view living t (chain view relation row) (subst (λ n. All (λ (v : Version). v.number < n) (chain view relation row)) (sym next) (chain_below_next view sound relation row))
        ∙ sym (standing_versions-meaning_with view living relation row begun)

    none_before : open_transaction (meaning_with living view) t.owner ≡ None
    none_before = go (open_transaction (meaning_with living view) t.owner) refl
      where
        go : (found : Option Transaction) → open_transaction (meaning_with living view) t.owner ≡ found → found ≡ None
        go None is = refl
        go (Some u) is =
            let lives = found_lives view living (next_of view) t.owner u is in
            let own = (found_in (is_open_of t.owner) (transactions_up_to view living (next_of view)) u is).1 in
            absurd (apart.owner u lives (same_from_test u.owner t.owner (both_pass (is_open u.standing) (u.owner == t.owner) own).1))

    gains_at : (count : ℕ) → next_of view ≡ suc count → Gains (meaning_with living view) (meaning_with (t ∷ living) view) t.owner t
    gains_at count place =
        let opened = open_ones.opened t (first_in t living) in
        let own : t.number ≡ suc count = next ∙ place in
        let fails = not_committed view (suc count) sound (omega (arith, place)) in
        record {
          none = none_before;
          found = open_transaction_is view (t ∷ living) open_ones t (first_in t living) above (omega (arith, next));
          others = λ other differ.
              subst (λ n. find (is_open_of other) (transactions_up_to view (t ∷ living) n) ≡ find (is_open_of other) (transactions_up_to view living n)) (sym place)
              (others_found view living t opened apart count own fails other differ);
          committed = λ number.
              ap (λ (numbers : List ℕ). is_held numbers number)
              (subst (λ n. committed_numbers (transactions_up_to view (t ∷ living) n) ≡ committed_numbers (transactions_up_to view living n)) (sym place)
              (committed_same view living t opened apart count own fails));
          held = λ number.
              subst
              (λ n. is_held_by_open (transactions_up_to view living n) number ≡ true → is_held t.snapshot number ≡ true → is_held_by_open (transactions_up_to view (t ∷ living) n) number ≡ true)
              (sym place) (held_after view living t opened apart count own fails number);
          versions = versions_stay;
        }

    pub begun_gains : Gains (meaning_with living view) (meaning_with (t ∷ living) view) t.owner t
    begun_gains = go (next_of view) refl
      where
        go : (n : ℕ) → next_of view ≡ n → Gains (meaning_with living view) (meaning_with (t ∷ living) view) t.owner t
        go zero is = absurd (omega (arith, is, next, above))
        go (suc count) is = gains_at count is
