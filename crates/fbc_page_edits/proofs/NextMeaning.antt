-- A view with a greater next number means the same.
use Rattle.std.proofs.Common.{◌≡◌, ◌<◌, ◌≤◌, ◌/◌, ◌%◌, ◌==◌, ◌∷◌, [], ℕ, zero, suc, Bool, true, false, List, Option, Some, None, All, find, map, unwrap_or, inl, inr, refl, sym, subst, arith, div-add-mod'}
use Rattle.std.specs.Option.{option_and_then}
use Rattle.std.proofs.lemmas.Bool.{cases_lt}
use Rattle.std.proofs.lemmas.Bool.Decides.{nat_tests}
use Rattle.std.proofs.lemmas.Grind.{common_steps}
use Rattle.fbc_kinds.specs.declared.pages.State.{State}
use Rattle.fbc_kinds.specs.declared.pages.State.TheVariants as state
use Rattle.fbc_kinds.specs.declared.snapshots.Transaction.{Transaction}
use Rattle.fbc_kinds.specs.Chain.{chain, state_of}
use Rattle.fbc_kinds.specs.Limits.{tip_numbers}
use Rattle.fbc_kinds.specs.Machine.{Machine, Made, is_rolled_back}
use Rattle.fbc_kinds.specs.Meaning.{MeanTheSame, made_of, meaning_with, transaction_of, transactions_up_to}
use Rattle.fbc_kinds.specs.Sound.{IsSound}
use Rattle.fbc_kinds.specs.View.{View, is_active_state, is_committed_state, next_of, size_of, state_in, tip_of}
use Rattle.fbc_page_edits.specs.Alike.{HaveSameChains, HaveSameStates}
use Rattle.fbc_page_edits.proofs.RolledBack.{StandAlike, push_rolled_back, stand_alike_itself, stand_alike_means_the_same}
use Rattle.fbc_page_edits.proofs.SameMeaning.{transactions_same}

pub committed_not_active : (s : State) → is_committed_state s ≡ true → is_active_state s ≡ false
committed_not_active state.Active is = cc
committed_not_active state.Limbo is = refl
committed_not_active state.Dead is = refl
committed_not_active state.Committed is = refl

-- A number that was not begun is not committed.
pub not_committed : (view : View) (number : ℕ) → IsSound view → next_of view ≤ number → is_committed_state (state_of view number) ≡ false
not_committed view number sound past = go (tip_of view (number / tip_numbers (size_of view))) refl
  where
    tested : (tip : ℕ) (s : State) (b : Bool) → is_committed_state s ≡ b → tip_of view (number / tip_numbers (size_of view)) ≡ Some tip → state_in (view tip) (number % tip_numbers (size_of view)) ≡ Some s → b ≡ false
    tested tip s false is there stands = refl
    tested tip s true is there stands =
        let small = sound.states (number / tip_numbers (size_of view)) tip (number % tip_numbers (size_of view)) s there stands (committed_not_active s is) in
        let whole = div-add-mod' number (tip_numbers (size_of view)) in
        absurd (omega arith)

    marked : (tip : ℕ) (o : Option State) → tip_of view (number / tip_numbers (size_of view)) ≡ Some tip → state_in (view tip) (number % tip_numbers (size_of view)) ≡ o → is_committed_state (unwrap_or o state.Active) ≡ false
    marked tip None there stands = refl
    marked tip (Some s) there stands = tested tip s (is_committed_state s) refl there stands

    go : (o : Option ℕ) → tip_of view (number / tip_numbers (size_of view)) ≡ o
        → is_committed_state (unwrap_or (option_and_then (λ (tip : ℕ). state_in (view tip) (number % tip_numbers (size_of view))) o) state.Active) ≡ false
    go None there = refl
    go (Some tip) there = marked tip (state_in (view tip) (number % tip_numbers (size_of view))) there refl

-- No open transaction has a number past those that they all have.
none_found : (ts : List Transaction) (greatest number : ℕ) → All (λ (t : Transaction). t.number ≤ greatest) ts → greatest < number → find (λ (t : Transaction). t.number == number) ts ≡ None
none_found [] greatest number all past = refl
none_found (t ∷ ts) greatest number all past =
    let first : t.number ≤ greatest = all 0 t (grind (arith, common_steps)) in
    let differ : (t.number == number) ≡ false = grind (arith, nat_tests) in
    rw differ (none_found ts greatest number (λ k d lt. all (suc k) d (grind (arith, common_steps))) past)

module _ (living : List Transaction) (view : View) (sound : IsSound view) (numbered : All (λ (t : Transaction). t.number ≤ next_of view) living) where
  rolled_back_past : (number : ℕ) → next_of view < number → is_rolled_back (transaction_of view living number).standing ≡ true
  rolled_back_past number past =
      let past_next : next_of view ≤ number = omega arith in
      rw (none_found living (next_of view) number numbered past, not_committed view number sound past_next) refl

  pub more_stand_alike : (count : ℕ) → next_of view ≤ count → StandAlike (transactions_up_to view living (next_of view)) (transactions_up_to view living count)
  more_stand_alike zero past = let same : next_of view ≡ 0 = omega arith in rw same (stand_alike_itself [])
  more_stand_alike (suc count) past = elim (cases_lt (next_of view) (suc count)) [
    | inl below ↦
        push_rolled_back (transactions_up_to view living (next_of view)) (transactions_up_to view living count) (transaction_of view living (suc count))
        (rolled_back_past (suc count) below) (more_stand_alike count (omega arith))
    | inr reached ↦ let same : next_of view ≡ suc count = omega arith in rw same (stand_alike_itself (transactions_up_to view living (suc count)))
  ]

  -- The machine with the transactions up to a greater number is the later view's.
  pub raised_means_the_same : (after : View) → HaveSameChains view after → HaveSameStates view after → next_of view ≤ next_of after → MeanTheSame (meaning_with living view) (meaning_with living after)
  raised_means_the_same after chains states past =
      let rows : ℕ → ℕ → List Made = λ relation row. map made_of (chain view relation row) in
      let longer : Machine = record { rows = rows; transactions = transactions_up_to view living (next_of after) } in
      let later : longer ≡ meaning_with living after = sym (λ i. record {
        rows = λ relation row. map made_of (chains relation row i);
        transactions = transactions_same living view after states (next_of after) i;
      }) in
      subst (MeanTheSame (meaning_with living view)) later
      (stand_alike_means_the_same rows (transactions_up_to view living (next_of view)) (transactions_up_to view living (next_of after)) (more_stand_alike (next_of after) past))
