-- Pages that were seen to be named for a sequence of a relation, and what stays of that when they are named no more.
use Rattle.std.specs.Prelude.{◌≡◌, ◌/◌, ℕ, Bool, false, true, None, Option, Some}
use Rattle.fbc_kinds.specs.declared.pages.Cell.{Cell}
use Rattle.fbc_kinds.specs.declared.pages.Page.{Page}
use Rattle.fbc_kinds.specs.declared.shapes.Shape.{Shape}
use Rattle.fbc_kinds.specs.declared.snapshots.Transaction.{Transaction}
use Rattle.fbc_kinds.specs.Edits.{value_length}
use Rattle.fbc_kinds.specs.Limits.{cells}
use Rattle.fbc_kinds.specs.Machine.{Machine, is_held, seen_by}
use Rattle.fbc_kinds.specs.Reach.{DataRole, Reaches, shows_role}
use Rattle.fbc_kinds.specs.View.{View, cell_in, is_top}
use Rattle.fbc_world.specs.History.{History}
use Rattle.fbc_world.specs.World.{world_of}
use Rattle.fbc_closed_cuts.specs.Cut.{Cut, view}
use Rattle.fbc_closed_cuts.specs.Firm.{HasOwnDrafts}
use Rattle.fbc_simulation.specs.Beside.{machine_of}

-- A version that is not held, and names no back version.
pub record IsLoneUnheld (held : ℕ → Bool) (version : Cell) : Type 0 where
  pub unheld : held version.number ≡ false
  pub alone : version.back_page ≡ 0

-- The owner sees no value of any row of the sequence.
abbrev pub SeesNoRow : Shape → Machine → ℕ → ℕ → ℕ → Type 0
SeesNoRow shape machine owner relation sequence =
    (row : ℕ) → row / cells shape.size (value_length shape relation) ≡ sequence → seen_by machine owner relation row ≡ None

-- Where the page is the relation's data page of the sequence, each newest version on it is not held, and names no other.
abbrev pub HasLoneTops : (ℕ → Bool) → ℕ → ℕ → ℕ → Option Page → Type 0
HasLoneTops held relation sequence number content =
    shows_role (DataRole relation sequence) number content ≡ true
    → (cell : ℕ) (top : Cell) → cell_in content cell ≡ Some top → is_top top.flag ≡ true → IsLoneUnheld held top

-- The view names the page for the sequence, or the owner sees none of its rows, and nothing on the page leads to one.
pub data IsGroundIn (shape : Shape) (machine : Machine) (owner : ℕ) (held : ℕ → Bool) (relation sequence page : ℕ) (seen : View) : Type 0 where
  named : Reaches seen (DataRole relation sequence) page → IsGroundIn shape machine owner held relation sequence page seen
  bare : SeesNoRow shape machine owner relation sequence
      → HasLoneTops held relation sequence page (seen page)
      → IsGroundIn shape machine owner held relation sequence page seen

-- So it is in every view that has all the owner's drafts, by the snapshot of its open transaction.
abbrev pub IsGround : Shape → View → History → ℕ → ℕ → ℕ → ℕ → Transaction → Type 0
IsGround shape file history owner relation sequence page t =
    (cut : Cut)
    → HasOwnDrafts (world_of shape file history) owner cut
    → IsGroundIn shape (machine_of shape file history) owner (is_held t.snapshot) relation sequence page (view (world_of shape file history) cut)
