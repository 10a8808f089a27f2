-- Chains of versions, states of transactions, and what a snapshot sees.
use Rattle.std.specs.Prelude.{ℕ, zero, suc, Bool, ◌/◌, ◌%◌, ◌==◌, ◌||◌, List, [], ◌∷◌, Option, Some, None, if◌then◌else◌, slice_get, find, unwrap_or}
use Rattle.std.specs.Option.{option_and_then, option_map_or}
use Rattle.fbc_kinds.specs.declared.pages.Relation.{Relation}
use Rattle.fbc_kinds.specs.declared.pages.Cell.{Cell}
use Rattle.fbc_kinds.specs.declared.pages.Flag.{Flag}
use Rattle.fbc_kinds.specs.declared.pages.Flag.TheVariants as flag
use Rattle.fbc_kinds.specs.declared.pages.State.{State}
use Rattle.fbc_kinds.specs.declared.pages.State.TheVariants as state
use Rattle.fbc_kinds.specs.declared.snapshots.Snapshot.{Snapshot}
use Rattle.fbc_kinds.specs.Limits.{cells, tip_numbers}
use Rattle.fbc_kinds.specs.View.{View, size_of, relation_of, data_of, tip_of, state_in, cell_at, is_top, is_committed_state}

-- A version of a row: the number of the transaction that made it, and its value, None where it is a deletion.
pub record Version : Type 0 where
  pub number : ℕ
  pub value : Option (List ℕ)

abbrev pub value_of : Flag → List ℕ → Option (List ℕ)
value_of flag.Deletion value = None
value_of _ value = Some value

abbrev pub version_of : Cell → Version
version_of cell = record { number = cell.number; value = value_of cell.flag cell.value }

-- The cell that a version names as its back version's.
abbrev pub below : View → Cell → Option Cell
below view version = if version.back_page == 0 then None else cell_at view version.back_page version.back_cell

-- At most so many versions: a cell's own, and those down its back links.
abbrev pub versions_from : View → ℕ → Option Cell → List Version
versions_from view zero cell = []
versions_from view (suc count) None = []
versions_from view (suc count) (Some cell) = version_of cell ∷ versions_from view count (below view cell)

-- How many cells each data page of a relation has.
abbrev pub cells_of : View → ℕ → ℕ
cells_of view relation = option_map_or (λ (r : Relation). cells (size_of view) r.length) (relation_of view relation) 0

-- The cell of a row: row numbers count the cells of the relation's data pages in the order of their sequences.
abbrev pub row_cell : View → ℕ → ℕ → Option Cell
row_cell view relation row =
    option_and_then
    (λ (page : ℕ). cell_at view page (row % cells_of view relation))
    (data_of view relation (row / cells_of view relation))

-- The chain of a row: the versions from its primary or deletion cell along the back links, newest first. Numbers
-- fall along a chain, so there is at most one version for each number up to the first one's.
abbrev pub chain_from : View → Option Cell → List Version
chain_from view None = []
chain_from view (Some cell) = if is_top cell.flag then versions_from view (suc cell.number) (Some cell) else []

abbrev pub chain : View → ℕ → ℕ → List Version
chain view relation row = chain_from view (row_cell view relation row)

-- The state of a number: the two bits that it has in its transaction inventory page, or active where that page is
-- not spelled.
abbrev pub state_of : View → ℕ → State
state_of view number =
    unwrap_or
    (option_and_then
    (λ (tip : ℕ). state_in (view tip) (number % tip_numbers (size_of view)))
    (tip_of view (number / tip_numbers (size_of view))))
    state.Active

-- A snapshot holds its own number and the numbers that were committed.
abbrev pub holds : Snapshot → ℕ → Bool
holds snapshot number = (number == snapshot.own) || is_committed_state (unwrap_or (slice_get snapshot.states number) state.Active)

-- What is seen of a chain is its first version whose number is held: nothing if that is a deletion or no such
-- version is there.
abbrev pub see : List Version → (ℕ → Bool) → Option (List ℕ)
see versions held =
    option_and_then (λ (version : Version). version.value) (find (λ (version : Version). held version.number) versions)
