-- Views whose pointer pages name no data page: when they are sound, and what they mean.
use Rattle.std.proofs.Common.{◌≡◌, ◌/◌, ◌%◌, ◌++◌, ℕ, zero, suc, Bool, true, false, List, [], ◌∷◌, map, Some, None, refl, sym, ap, ◌∙◌}
use Rattle.std.specs.Prelude.{Option, filter, find, unwrap_or}
use Rattle.std.specs.Option.{option_and_then}
use Rattle.std.proofs.lemmas.Option.{none-some}
use Rattle.fbc_kinds.specs.declared.pages.Header.{Header}
use Rattle.fbc_kinds.specs.declared.pages.State.{State}
use Rattle.fbc_kinds.specs.declared.pages.State.TheVariants as kind
use Rattle.fbc_kinds.specs.declared.snapshots.Transaction.{Transaction}
use Rattle.fbc_kinds.specs.Chain.{Version, cells_of, chain, chain_from, row_cell, see, state_of}
use Rattle.fbc_kinds.specs.Limits.{tip_numbers}
use Rattle.fbc_kinds.specs.Machine.{committed_numbers, empty, is_committed, is_held, is_open_of, seen, standing_versions}
use Rattle.fbc_kinds.specs.Meaning.{MeanTheSame, meaning_of, settled, transactions_up_to}
use Rattle.fbc_kinds.specs.Reach.{DataRole, ReachesCell, Reaches, Role, shows_role}
use Rattle.fbc_kinds.specs.Sound.{IsSound}
use Rattle.fbc_kinds.specs.View.{View, cell_at, is_active_state, is_committed_state, next_of, size_of, state_in, tip_of}
use Rattle.fbc_kinds.proofs.Roles.{reached_once}
use Rattle.fbc_files.specs.Roles.{AreActive, DataFits, NamesFit, NamesNoData}
use Rattle.fbc_files.proofs.ReachedRoles.{HasRole-reached}

-- What is found behind nothing.
pub and_then_none : {A B : Type 0} (f : A → Option B) (place : Option A) → ((a : A) → f a ≡ None) → option_and_then f place ≡ None
and_then_none f None none = refl
and_then_none f (Some a) none = none a

-- The first of a list, where it fails or passes a test.
find_first : (test : Transaction → Bool) (first : Transaction) (later longer : List Transaction) (b : Bool) → test first ≡ b → find test (first ∷ later) ≡ None → (find test later ≡ None → find test longer ≡ None) → find test (first ∷ longer) ≡ None
find_first test first later longer true is none next = let no : Some first ≡ None = rw is at none in absurd (none-some first (sym no))
find_first test first later longer false is none next = rw is (next (rw is at none))

filter_first : (test : Transaction → Bool) (first : Transaction) (later longer : List Transaction) (b : Bool) → test first ≡ b → filter test (first ∷ later) ≡ [] → (filter test later ≡ [] → filter test longer ≡ []) → filter test (first ∷ longer) ≡ []
filter_first test first later longer true is none next = let no : first ∷ filter test later ≡ [] = rw is at none in cc
filter_first test first later longer false is none next = rw is (next (rw is at none))

-- A transaction that fails a test, behind others that do.
find_none : (test : Transaction → Bool) (ts : List Transaction) (t : Transaction) → find test ts ≡ None → test t ≡ false → find test (ts ++ t ∷ []) ≡ None
find_none test [] t none fails = rw fails refl
find_none test (first ∷ ts) t none fails = find_first test first ts (ts ++ t ∷ []) (test first) refl none (λ before. find_none test ts t before fails)

filter_none : (test : Transaction → Bool) (ts : List Transaction) (t : Transaction) → filter test ts ≡ [] → test t ≡ false → filter test (ts ++ t ∷ []) ≡ []
filter_none test [] t none fails = rw fails refl
filter_none test (first ∷ ts) t none fails = filter_first test first ts (ts ++ t ∷ []) (test first) refl none (λ before. filter_none test ts t before fails)

-- A state that can only be active is not the committed one.
not_both : (state : State) → is_active_state state ≡ true → is_committed_state state ≡ false
not_both kind.Active is = refl
not_both kind.Limbo is = refl
not_both kind.Dead is = refl
not_both kind.Committed is = cc

unless_active : (place : Option State) → ((state : State) → place ≡ Some state → is_active_state state ≡ true) → is_committed_state (unwrap_or place kind.Active) ≡ false
unless_active None active = refl
unless_active (Some state) active = not_both state (active state refl)

module _ (view : View) (no_rows : NamesNoData view) where
  no_data : (relation sequence page : ℕ) → Reaches view (DataRole relation sequence) page → ⊥
  no_data relation sequence page is = none-some page (sym (no_rows relation sequence) ∙ is)

  no_cell : (relation page cell : ℕ) → ReachesCell view relation page cell → ⊥
  no_cell relation page cell (ReachesCell.top sequence _ _ version reached stands is) = no_data relation sequence page reached
  no_cell relation page cell (ReachesCell.along before held _ _ version reached stands names) = no_cell relation before held reached

  DataFits-none : DataFits view
  DataFits-none relation sequence page is = absurd (no_data relation sequence page is)

  -- Such a view is sound where its other pages have their roles.
  pub IsSound-rowless : (header : Header) → NamesFit view header → AreActive view → IsSound view
  IsSound-rowless header fits active =
      let fitting : (role : Role) (page : ℕ) → Reaches view role page → shows_role role page (view page) ≡ true = λ role page is. (HasRole-reached view header fits DataFits-none role page is).shows in
      record {
        fitting = fitting;
        taken = λ role page is. (HasRole-reached view header fits DataFits-none role page is).taken;
        once = reached_once view fitting;
        back = λ relation page cell back_page back_cell version links. absurd (no_cell relation page cell links.reached);
        back_once = λ relation page cell other_relation other_page other_cell back_page back_cell version other links others. absurd (no_cell relation page cell links.reached);
        numbers = λ relation sequence page cell version reached stands some. absurd (no_data relation sequence page reached);
        states = λ sequence page place state reached at over. let is = active page place state at in cc;
        below = λ relation page cell back_page back_cell version back links stands. absurd (no_cell relation page cell links.reached);
      }

  no_chain : (relation row : ℕ) → chain view relation row ≡ []
  no_chain relation row =
      let none : row_cell view relation row ≡ None = ap (option_and_then (λ (page : ℕ). cell_at view page (row % cells_of view relation))) (no_rows relation (row / cells_of view relation)) in
      ap (chain_from view) none

  module _ (active : AreActive view) where
    found_active : (tip : Option ℕ) (place : ℕ) (state : State) → option_and_then (λ (page : ℕ). state_in (view page) place) tip ≡ Some state → is_active_state state ≡ true
    found_active None place state at = absurd (none-some state at)
    found_active (Some page) place state at = active page place state at

    unmarked : (number : ℕ) → is_committed_state (state_of view number) ≡ false
    unmarked number =
        unless_active (option_and_then (λ (page : ℕ). state_in (view page) (number % tip_numbers (size_of view))) (tip_of view (number / tip_numbers (size_of view))))
        (found_active (tip_of view (number / tip_numbers (size_of view))) (number % tip_numbers (size_of view)))

    not_open : (who number : ℕ) → is_open_of who (settled view number) ≡ false
    not_open who number = rw (unmarked number) refl

    not_committed : (number : ℕ) → is_committed (settled view number).standing ≡ false
    not_committed number = rw (unmarked number) refl

    none_open : (who count : ℕ) → find (is_open_of who) (transactions_up_to view [] count) ≡ None
    none_open who zero = refl
    none_open who (suc count) = find_none (is_open_of who) (transactions_up_to view [] count) (settled view (suc count)) (none_open who count) (not_open who (suc count))

    none_committed : (count : ℕ) → filter (λ (t : Transaction). is_committed t.standing) (transactions_up_to view [] count) ≡ []
    none_committed zero = refl
    none_committed (suc count) = filter_none (λ (t : Transaction). is_committed t.standing) (transactions_up_to view [] count) (settled view (suc count)) (none_committed count) (not_committed (suc count))

    no_numbers : committed_numbers (meaning_of view).transactions ≡ []
    no_numbers = ap (map (λ (t : Transaction). t.number)) (none_committed (next_of view))

    no_versions : (relation row : ℕ) → standing_versions (meaning_of view) relation row ≡ []
    no_versions relation row = rw (no_chain relation row) refl

    -- It means the machine without rows where no number is committed.
    pub MeanTheSame-rowless : MeanTheSame (meaning_of view) empty
    MeanTheSame-rowless = record {
      same_open = λ who. rw (none_open who (next_of view)) tt;
      committed = λ number. ap (λ (numbers : List ℕ). is_held numbers number) no_numbers;
      seen = λ who relation row. ap (option_and_then (seen (meaning_of view) relation row)) (none_open who (next_of view));
      seen_by_committed = λ relation row. ap (λ (versions : List Version). see versions (is_held (committed_numbers (meaning_of view).transactions))) (no_versions relation row);
      same_newest = λ relation row. rw (no_versions relation row) tt;
    }
