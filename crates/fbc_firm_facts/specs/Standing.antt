-- Where a reader stands on its way down the chain of a row.
use Rattle.std.specs.Prelude.{◌≡◌, ◌⊎◌, ◌/◌, ◌%◌, ℕ, Bool, false, true, List, Option, Some, suc}
use Rattle.fbc_kinds.specs.declared.pages.Cell.{Cell}
use Rattle.fbc_kinds.specs.declared.shapes.Shape.{Shape}
use Rattle.fbc_kinds.specs.declared.snapshots.Transaction.{Transaction}
use Rattle.fbc_kinds.specs.Chain.{see, versions_from}
use Rattle.fbc_kinds.specs.Edits.{value_length}
use Rattle.fbc_kinds.specs.Limits.{cells}
use Rattle.fbc_kinds.specs.Machine.{is_held, seen_by}
use Rattle.fbc_kinds.specs.Reach.{DataRole, NamesBack, Reaches}
use Rattle.fbc_kinds.specs.View.{View, cell_at, is_top}
use Rattle.fbc_world.specs.History.{History}
use Rattle.fbc_world.specs.World.{world_of}
use Rattle.fbc_numbers.specs.Numbers.{is_committed_in}
use Rattle.fbc_closed_cuts.specs.Cut.{Cut, view}
use Rattle.fbc_closed_cuts.specs.Firm.{HasOwnDrafts}
use Rattle.fbc_simulation.specs.Beside.{machine_of}

-- A way from the row's own cell down to a cell, over versions that are not held.
pub data LeadsUnheld (seen : View) (held : ℕ → Bool) (relation sequence place : ℕ) : ℕ → ℕ → Type 0 where
  begins : (page cell : ℕ) (version : Cell)
      → cell ≡ place
      → Reaches seen (DataRole relation sequence) page
      → cell_at seen page cell ≡ Some version
      → is_top version.flag ≡ true
      → LeadsUnheld seen held relation sequence place page cell
  goes_on : (page cell back_page back_cell : ℕ) (version : Cell)
      → LeadsUnheld seen held relation sequence place page cell
      → cell_at seen page cell ≡ Some version
      → held version.number ≡ false
      → NamesBack version back_page back_cell
      → LeadsUnheld seen held relation sequence place back_page back_cell

-- On such a way a version of this number names the cell below. It is the one in the pinned cell, or is committed.
pub record IsLinkedBelow (seen : View) (held : ℕ → Bool) (relation sequence place number pinned_page pinned_cell back_page back_cell : ℕ) : Type 0 where
  pub page : ℕ
  pub cell : ℕ
  pub version : Cell
  pub leads : LeadsUnheld seen held relation sequence place page cell
  pub stands : cell_at seen page cell ≡ Some version
  pub same : version.number ≡ number
  pub unheld : held version.number ≡ false
  pub names : NamesBack version back_page back_cell
  pub sure : ((page ≡ pinned_page) × (cell ≡ pinned_cell)) ⊎ (is_committed_in seen version.number ≡ true)

-- From the version in the cell down one sees what is seen of the row. If it is not held, a way leads to the cell that it names.
pub record IsStanding (seen : View) (held : ℕ → Bool) (value : Option (List ℕ)) (relation sequence place page cell : ℕ) (version : Cell) : Type 0 where
  pub stands : cell_at seen page cell ≡ Some version
  pub sees : see (versions_from seen (suc version.number) (Some version)) held ≡ value
  pub below : held version.number ≡ false
      → (back_page back_cell : ℕ) → NamesBack version back_page back_cell
      → IsLinkedBelow seen held relation sequence place version.number page cell back_page back_cell

-- Where the relation's data pages have the row: the sequence of the page, and the cell on it.
abbrev pub sequence_of : Shape → ℕ → ℕ → ℕ
sequence_of shape relation row = row / cells shape.size (value_length shape relation)

abbrev pub place_of : Shape → ℕ → ℕ → ℕ
place_of shape relation row = row % cells shape.size (value_length shape relation)

-- So the owner stands in the cell in every view that has all its drafts, by the snapshot of its open transaction.
abbrev pub StandsFirmly : Shape → View → History → ℕ → ℕ → ℕ → ℕ → ℕ → Cell → Transaction → Type 0
StandsFirmly shape file history owner relation row page cell version t =
    (cut : Cut)
    → HasOwnDrafts (world_of shape file history) owner cut
    → IsStanding (view (world_of shape file history) cut) (is_held t.snapshot) (seen_by (machine_of shape file history) owner relation row)
    relation (sequence_of shape relation row) (place_of shape relation row) page cell version
