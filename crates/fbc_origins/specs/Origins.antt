-- Where the cells of pages come from: what their stamps tell of what is kept, of what is newest, and of every view.
use Rattle.std.specs.Prelude.{◌≡◌, ◌⊎◌, ◌≤◌, ℕ, Contains, Some, length, true}
use Rattle.fbc_kinds.specs.declared.pages.Cell.{Cell}
use Rattle.fbc_kinds.specs.Reach.{LinksTo}
use Rattle.fbc_kinds.specs.View.{View, cell_at, cell_in, is_back}
use Rattle.fbc_version_edits.specs.Forms.{NamesNone}
use Rattle.fbc_page_edits.specs.Facing.{NameTheSame, IsLinked}
use Rattle.fbc_legal.specs.Scene.{Scene, born_at, newest_at}
use Rattle.fbc_legal.specs.Stamps.{Stamps, newest_stamps}
use Rattle.fbc_legal.specs.Traces.{IsMovedBy, IsUnlinkedBy}
use Rattle.fbc_closed_cuts.specs.Cut.{Cut, IsClosedCut, view}
use Rattle.fbc_closed_cuts.specs.Views.{view_stamps}

-- The stamps of every view of a closed cut, with its pages, have this property.
abbrev pub EveryView : Scene → (View → (ℕ → Stamps) → Type 0) → Type 0
EveryView at Holds = (cut : Cut) → IsClosedCut at.world cut → Holds (view at.world cut) (view_stamps at.world at.stamps cut)

-- Stamps are numbers of events before.
pub record ArePast (count : ℕ) (stamps : Stamps) : Type 0 where
  pub born : (cell : ℕ) → stamps.born cell ≤ count
  pub meant : (cell : ℕ) → stamps.meant cell ≤ count
  pub edits : (edit : ℕ) → Contains stamps.edits edit → edit ≤ count

abbrev pub StampsArePast : Scene → Type 0
StampsArePast at = (page : ℕ) → ArePast (length at.past) (at.stamps.kept page) × ArePast (length at.past) (at.stamps.draft page)

-- Two contents of a cell are one version, which may have lost its link.
pub record IsSameVersion (old new : Cell) : Type 0 where
  pub flag : new.flag ≡ old.flag
  pub number : new.number ≡ old.number
  pub value : new.value ≡ old.value
  pub link : NameTheSame old new ⊎ NamesNone new

-- A cell with the same stamp in the file and in the newest pages holds one version, which meant the same by its link.
abbrev pub CellsKeepVersions : Scene → Type 0
CellsKeepVersions at = (page cell : ℕ) (old new : Cell)
    → cell_in (at.world.kept page) cell ≡ Some old
    → cell_in (newest_at at page) cell ≡ Some new
    → (at.stamps.kept page).born cell ≡ born_at at page cell
    → IsSameVersion old new × ((at.stamps.kept page).meant cell ≡ (newest_stamps at.world at.stamps page).meant cell)

-- What the file has taken in the newest pages have.
abbrev pub EditsStay : Scene → Type 0
EditsStay at = (page edit : ℕ) → Contains (at.stamps.kept page).edits edit → Contains (newest_stamps at.world at.stamps page).edits edit

-- A link that is reached leads to the version that it meant.
abbrev pub LinksAreMeant : Scene → Type 0
LinksAreMeant at = EveryView at (λ seen stamps. (relation page cell back_page back_cell : ℕ) (version : Cell)
    → LinksTo seen relation page cell version back_page back_cell → (stamps page).meant cell ≡ (stamps back_page).born back_cell)

-- A back value that an owner has moved, and that the newest pages have not reached since, is reached in no view.
abbrev pub MovesAreUnreached : Scene → Type 0
MovesAreUnreached at = (owner page cell stamp : ℕ) → IsMovedBy at.shape at.file owner page cell stamp at.past
    → EveryView at (λ seen stamps. (stamps page).born cell ≡ stamp → ¬ IsLinked seen page cell)

-- It stays a back value there.
abbrev pub MovesAreBack : Scene → Type 0
MovesAreBack at = (owner page cell stamp : ℕ) → IsMovedBy at.shape at.file owner page cell stamp at.past
    → EveryView at (λ seen stamps. (stamps page).born cell ≡ stamp → (version : Cell) → cell_at seen page cell ≡ Some version → is_back version.flag ≡ true)

-- It has its link in the file as in the newest pages.
abbrev pub MovesKeepLinks : Scene → Type 0
MovesKeepLinks at = (owner page cell stamp : ℕ) (old new : Cell) → IsMovedBy at.shape at.file owner page cell stamp at.past
    → (at.stamps.kept page).born cell ≡ stamp → born_at at page cell ≡ stamp
    → cell_in (at.world.kept page) cell ≡ Some old → cell_in (newest_at at page) cell ≡ Some new → NameTheSame old new

-- A back value that an edit made unreached is reached in no view that has that edit.
abbrev pub UnlinkedAreGone : Scene → Type 0
UnlinkedAreGone at = (page cell owner edited stamp : ℕ) → IsUnlinkedBy at.shape at.file page cell owner edited stamp at.past
    → EveryView at (λ seen stamps. Contains (stamps edited).edits stamp → (stamps page).born cell ≡ born_at at page cell → ¬ IsLinked seen page cell)

-- All of this at once.
pub record IsOriginal (at : Scene) : Type 0 where
  pub past : StampsArePast at
  pub versions : CellsKeepVersions at
  pub edits : EditsStay at
  pub meant : LinksAreMeant at
  pub moves : MovesAreUnreached at
  pub backs : MovesAreBack at
  pub links : MovesKeepLinks at
  pub gone : UnlinkedAreGone at
