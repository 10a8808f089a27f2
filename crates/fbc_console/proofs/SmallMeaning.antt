-- What a small file means.
use Rattle.std.proofs.Common.{◌≡◌, ◌≤◌, ◌<◌, ◌+◌, ◌/◌, ◌%◌, ◌-◌, ◌⊎◌, inl, inr, ◌++◌, ℕ, zero, suc, List, [], ◌∷◌, length, slice_get, slice_index_or, Some, None, refl, ap, sym, subst, ◌∙◌, arith}
use Rattle.std.specs.Prelude.{Option, map, filter_map, replicate, unwrap_or, if◌then◌else◌}
use Rattle.std.specs.Option.{option_and_then}
use Rattle.std.proofs.lemmas.Bool.{cases_lt}
use Rattle.std.proofs.lemmas.Option.{slice_get_past}
use Rattle.fbc_kinds.specs.declared.pages.Page.{Page}
use Rattle.fbc_kinds.specs.declared.pages.Page.TheVariants as kind
use Rattle.fbc_kinds.specs.declared.pages.Cell.{Cell}
use Rattle.fbc_kinds.specs.declared.pages.State.{State}
use Rattle.fbc_kinds.specs.declared.pages.State.TheVariants as state
use Rattle.fbc_kinds.specs.declared.snapshots.Standing.{Standing}
use Rattle.fbc_kinds.specs.declared.snapshots.Standing.TheVariants as standing
use Rattle.fbc_kinds.specs.declared.snapshots.Transaction.{Transaction}
use Rattle.fbc_kinds.specs.DataSpelling.{empty_cell}
use Rattle.fbc_kinds.specs.View.{View, cell_in, cell_at, named_in, is_committed_state}
use Rattle.fbc_kinds.specs.Chain.{Version, see, chain, chain_from, row_cell}
use Rattle.fbc_kinds.specs.Machine.{Machine, Made, empty, is_held, numbered, standing_versions, newest}
use Rattle.fbc_kinds.specs.Meaning.{MeanTheSame, IsSameNewest, meaning_of, made_of, settled, transactions_up_to}
use Rattle.fbc_console.specs.FreshFile.{cells_of, inserted_cell}
use Rattle.fbc_console.proofs.PlayedMachine.{made_in, rows_of, machine_with}
use Rattle.fbc_console.proofs.SmallFile.{Small, view_of, HasNoData, HasData, IsSmall}

-- Behind the values the cells are empty, and so no row stands there.
empty_made : (view : View) (count row : ℕ) → map made_of (chain_from view (slice_get (replicate count empty_cell) row)) ≡ []
empty_made view zero row = refl
empty_made view (suc count) zero = refl
empty_made view (suc count) (suc row) = empty_made view count row

cells_made : (view : View) (values : List (List ℕ)) (count row : ℕ) → map made_of (chain_from view (slice_get (map inserted_cell values ++ replicate count empty_cell) row)) ≡ made_in (slice_get values row)
cells_made view [] count row = empty_made view count row
cells_made view (value ∷ values) count zero = refl
cells_made view (value ∷ values) count (suc row) = cells_made view values count row

cell_made : (view : View) (values : List (List ℕ)) (row : ℕ) → map made_of (chain_from view (slice_get (cells_of 45 values) row)) ≡ made_in (slice_get values row)
unfolding cells_of
cell_made view values row = cells_made view values (45 - length values) row

-- The cell that a slot's page has at a place.
abbrev cell_by : Small → ℕ → ℕ → ℕ → Option Cell
cell_by s sequence slot cell =
    option_and_then (λ (page : ℕ). cell_at (view_of s) page cell)
    (option_and_then (λ (pointer : ℕ). named_in (view_of s pointer) slot) (slice_get (3 ∷ []) sequence))

abbrev versions_in : Small → Option Cell → List Made
versions_in s found = map made_of (chain_from (view_of s) found)

module _ (s : Small) (values : List (List ℕ)) (count : ℕ) where
  no_cell : HasNoData s values count → (sequence slot cell : ℕ) → cell_by s sequence slot cell ≡ None
  no_cell none zero slot cell = ap (option_and_then (λ (page : ℕ). cell_at (view_of s) page cell)) (none.unnamed slot)
  no_cell none (suc sequence) slot cell = refl

  first_cell : HasData s values count → (cell : ℕ) → cell_by s 0 0 cell ≡ slice_get (cells_of 45 values) cell
  first_cell some cell =
      ap (option_and_then (λ (page : ℕ). cell_at (view_of s) page cell)) some.named ∙ ap (λ (last : List Page). cell_in (Some (slice_index_or last 0 kind.Blank)) cell) some.held

  later_cell : HasData s values count → (sequence slot cell : ℕ) → 0 < sequence + slot → cell_by s sequence slot cell ≡ None
  later_cell some zero zero cell later = let no : ⊥ = omega (arith, later) in absurd no
  later_cell some zero (suc slot) cell later = ap (option_and_then (λ (page : ℕ). cell_at (view_of s) page cell)) (some.unnamed slot)
  later_cell some (suc sequence) slot cell later = refl

  row_without : HasNoData s values count → (row : ℕ) → versions_in s (row_cell (view_of s) 0 row) ≡ made_in (slice_get values row)
  row_without none row =
      ap (versions_in s) (no_cell none (row / 45 / 252) (row / 45 % 252) (row % 45)) ∙ sym (ap (λ v. made_in (slice_get v row)) none.no_values)

  row_with : HasData s values count → (row : ℕ) → (row < 45) ⊎ (45 ≤ row) → versions_in s (row_cell (view_of s) 0 row) ≡ made_in (slice_get values row)
  row_with some row (inl low) =
      let page_is : row / 45 ≡ 0 = omega (arith, low) in
      let place_is : row % 45 ≡ row = omega (arith, low) in
      ap (λ q. versions_in s (cell_by s (q / 252) (q % 252) (row % 45))) page_is
      ∙ ap (λ cell. versions_in s (cell_by s 0 0 cell)) place_is
      ∙ ap (versions_in s) (first_cell some row)
      ∙ cell_made (view_of s) values row
  row_with some row (inr high) =
      let later : 0 < row / 45 / 252 + row / 45 % 252 = omega (arith, high) in
      ap (versions_in s) (later_cell some (row / 45 / 252) (row / 45 % 252) (row % 45) later)
      ∙ sym (ap made_in (slice_get_past values row (omega (arith, some.room, high))))

  rows_are : HasNoData s values count ⊎ HasData s values count → (relation row : ℕ) → map made_of (chain (view_of s) relation row) ≡ rows_of values relation row
  rows_are (inl none) zero row = row_without none row
  rows_are (inr some) zero row = row_with some row (cases_lt row 45)
  rows_are (inl none) (suc relation) row = refl
  rows_are (inr some) (suc relation) row = refl

-- A transaction whose owner is gone.
abbrev pub settled_as : ℕ → Standing → Transaction
settled_as number now = record { number = number; owner = 0; standing = now; snapshot = [] }

abbrev settled_by : ℕ → Option State → Transaction
settled_by number found = settled_as number (if is_committed_state (unwrap_or found state.Active) then standing.Committed else standing.RolledBack)

-- The machine of a file with these values, in which transaction 1 is over and 2 has not begun.
abbrev file_machine : Standing → List (List ℕ) → Machine
file_machine now values = record { rows = rows_of values; transactions = settled_as 1 now ∷ settled_as 2 standing.RolledBack ∷ [] }

-- The versions of a row that are not rolled back, by the transactions.
abbrev standing_in : List Transaction → List Made → List Version
standing_in transactions made = filter_map (λ (v : Made). option_and_then (numbered v.value) (slice_get transactions v.maker)) made

-- The same versions are not rolled back where the same transaction is committed.
versions_same : (values : List (List ℕ)) (relation row : ℕ) → standing_versions (file_machine standing.Committed values) relation row ≡ standing_versions (machine_with standing.Committed values) relation row
versions_same values zero row = found_same (slice_get values row)
  where
    found_same : (found : Option (List ℕ)) → standing_in (file_machine standing.Committed values).transactions (made_in found) ≡ standing_in (machine_with standing.Committed values).transactions (made_in found)
    found_same None = refl
    found_same (Some value) = refl
versions_same values (suc relation) row = refl

-- No version stands where the transaction is rolled back.
none_standing : (values : List (List ℕ)) (relation row : ℕ) → standing_versions (file_machine standing.RolledBack values) relation row ≡ []
none_standing values zero row = found_none (slice_get values row)
  where
    found_none : (found : Option (List ℕ)) → standing_in (file_machine standing.RolledBack values).transactions (made_in found) ≡ []
    found_none None = refl
    found_none (Some value) = refl
none_standing values (suc relation) row = refl

newest_same : (a b : Machine) (found : Option Version) → IsSameNewest a b found found
newest_same a b None = tt
newest_same a b (Some version) = refl

committed_same : (values : List (List ℕ)) → MeanTheSame (file_machine standing.Committed values) (machine_with standing.Committed values)
committed_same values = record {
  same_open = λ who. tt;
  committed = λ number. refl;
  seen = λ who relation row. refl;
  seen_by_committed = λ relation row. ap (λ versions. see versions (is_held (1 ∷ []))) (versions_same values relation row);
  same_newest = λ relation row.
      let file : Machine = file_machine standing.Committed values in
      let machine : Machine = machine_with standing.Committed values in
      subst (λ versions. IsSameNewest file machine (newest (standing_versions file relation row)) (newest versions)) (versions_same values relation row) (newest_same file machine (newest (standing_versions file relation row)));
}

rolled_back_same : (values : List (List ℕ)) → MeanTheSame (file_machine standing.RolledBack values) empty
rolled_back_same values = record {
  same_open = λ who. tt;
  committed = λ number. refl;
  seen = λ who relation row. refl;
  seen_by_committed = λ relation row. ap (λ versions. see versions (is_held [])) (none_standing values relation row);
  same_newest = λ relation row. subst (λ versions. IsSameNewest (file_machine standing.RolledBack values) empty (newest versions) None) (sym (none_standing values relation row)) tt;
}

nothing_same : MeanTheSame (record { rows = rows_of []; transactions = settled_as 1 standing.RolledBack ∷ [] }) empty
nothing_same = record {
  same_open = λ who. tt;
  committed = λ number. refl;
  seen = λ who relation row. refl;
  seen_by_committed = λ relation row. ap (λ made. see (standing_in (settled_as 1 standing.RolledBack ∷ []) made) (is_held [])) (no_versions relation row);
  same_newest = λ relation row. subst (λ made. IsSameNewest (record { rows = rows_of []; transactions = settled_as 1 standing.RolledBack ∷ [] }) empty (newest (standing_in (settled_as 1 standing.RolledBack ∷ []) made)) None) (sym (no_versions relation row)) tt;
}
  where
    no_versions : (relation row : ℕ) → rows_of [] relation row ≡ []
    no_versions zero row = refl
    no_versions (suc relation) row = refl

-- The machine that a small file means, by its next transaction number and the states of the two first ones.
module _ (s : Small) (values : List (List ℕ)) (count : ℕ) (small : IsSmall s values count) where
  meaning_is : (transactions : List Transaction) → transactions_up_to (view_of s) [] s.next ≡ transactions → meaning_of (view_of s) ≡ record { rows = rows_of values; transactions = transactions }
  meaning_is transactions are = λ i. record { rows = λ relation row. rows_are s values count small.data_page relation row i; transactions = are i }

  two_transactions : (found : State) → s.next ≡ 2 → slice_get s.states 1 ≡ Some found → slice_get s.states 2 ≡ Some state.Active → transactions_up_to (view_of s) [] s.next ≡ settled_by 1 (Some found) ∷ settled_as 2 standing.RolledBack ∷ []
  two_transactions found next one two =
      ap (transactions_up_to (view_of s) []) next
      ∙ ap (λ (t : Transaction). t ∷ settled (view_of s) 2 ∷ []) (ap (settled_by 1) one)
      ∙ ap (λ (t : Transaction). settled_by 1 (Some found) ∷ t ∷ []) (ap (settled_by 2) two)

  -- Where transaction 1 is committed, that is the machine with its values.
  pub means_committed : s.next ≡ 2 → slice_get s.states 1 ≡ Some state.Committed → slice_get s.states 2 ≡ Some state.Active → MeanTheSame (meaning_of (view_of s)) (machine_with standing.Committed values)
  means_committed next one two =
      subst (λ m. MeanTheSame m (machine_with standing.Committed values)) (sym (meaning_is _ (two_transactions state.Committed next one two))) (committed_same values)

  -- Where it has begun and is not committed, that is the machine without rows.
  pub means_rolled_back : s.next ≡ 2 → slice_get s.states 1 ≡ Some state.Active → slice_get s.states 2 ≡ Some state.Active → MeanTheSame (meaning_of (view_of s)) empty
  means_rolled_back next one two = subst (λ m. MeanTheSame m empty) (sym (meaning_is _ (two_transactions state.Active next one two))) (rolled_back_same values)

-- Where nothing has begun, that is the machine without rows.
pub means_nothing : (s : Small) (count : ℕ) → IsSmall s [] count → s.next ≡ 1 → slice_get s.states 1 ≡ Some state.Active → MeanTheSame (meaning_of (view_of s)) empty
means_nothing s count small next one =
    let transactions : transactions_up_to (view_of s) [] s.next ≡ settled_as 1 standing.RolledBack ∷ [] =
    ap (transactions_up_to (view_of s) []) next ∙ ap (λ (t : Transaction). t ∷ []) (ap (settled_by 1) one) in
    subst (λ m. MeanTheSame m empty) (sym (meaning_is s [] count small _ transactions)) nothing_same
