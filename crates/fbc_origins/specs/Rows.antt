-- Rows that the file has in every view.
use Rattle.std.specs.Prelude.{◌≡◌, ◌≢◌, ◌⊎◌, ◌/◌, ◌%◌, ℕ, Some, true}
use Rattle.fbc_kinds.specs.declared.pages.Cell.{Cell}
use Rattle.fbc_kinds.specs.declared.shapes.Shape.{Shape}
use Rattle.fbc_kinds.specs.declared.snapshots.Transaction.{Transaction}
use Rattle.fbc_kinds.specs.Limits.{slots}
use Rattle.fbc_kinds.specs.Reach.{DataRole, Reaches}
use Rattle.fbc_kinds.specs.View.{View, cell_at, is_top, named_in, pointer_of}
use Rattle.fbc_legal.specs.Scene.{HasDraft, Scene, newest_at}
use Rattle.fbc_closed_cuts.specs.Cut.{Cut, IsClosedCut, view}
use Rattle.fbc_numbers.specs.Numbers.{is_committed_in}

-- A top version is settled in its row where it names a back version, or its number is committed in the file.
abbrev pub IsSettledTop : Scene → Cell → Type 0
IsSettledTop at top = (is_top top.flag ≡ true) × ((top.back_page ≢ 0) ⊎ (is_committed_in at.world.kept top.number ≡ true))

-- A data page of the newest pages with a settled top is named in every view, for the same relation and sequence.
abbrev pub SettledRowsAreNamed : Scene → Type 0
SettledRowsAreNamed at = (relation sequence page cell : ℕ) (top : Cell)
    → Reaches (newest_at at) (DataRole relation sequence) page
    → cell_at (newest_at at) page cell ≡ Some top
    → IsSettledTop at top
    → (cut : Cut) → IsClosedCut at.world cut → Reaches (view at.world cut) (DataRole relation sequence) page

-- A view names the data page by this pointer page, for the relation and sequence.
pub record NamesRow (shape : Shape) (view : View) (relation sequence pointer page : ℕ) : Type 0 where
  pub pointed : pointer_of view relation (sequence / slots shape.size) ≡ Some pointer
  pub named : named_in (view pointer) (sequence % slots shape.size) ≡ Some page

-- Where a view names a data page in which it shows a settled top, the file names that page by the same pointer page.
abbrev pub RowsAreNamed : Scene → Type 0
RowsAreNamed at = (cut : Cut) (relation sequence pointer page cell : ℕ) (top : Cell) → IsClosedCut at.world cut
    → NamesRow at.shape (view at.world cut) relation sequence pointer page
    → cell_at (view at.world cut) page cell ≡ Some top
    → IsSettledTop at top
    → NamesRow at.shape at.world.kept relation sequence pointer page

-- What the file keeps of the header and of the pointer page names the data page, or the draft that does so is the owner's.
pub record IsNamedOrDrafted (at : Scene) (owner relation sequence pointer page : ℕ) : Type 0 where
  pub pointed : (pointer_of at.world.kept relation (sequence / slots at.shape.size) ≡ Some pointer) ⊎ HasDraft at owner 0
  pub named : (named_in (at.world.kept pointer) (sequence % slots at.shape.size) ≡ Some page) ⊎ HasDraft at owner pointer

-- Where a view names a data page in which it shows a top version of an open number, the file names that page by the same pointer
-- page, or the drafts that name it are those of the number's owner.
abbrev pub OpensAreNamed : Scene → Type 0
OpensAreNamed at = (cut : Cut) (relation sequence pointer page cell owner : ℕ) (top : Cell) (t : Transaction) → IsClosedCut at.world cut
    → NamesRow at.shape (view at.world cut) relation sequence pointer page
    → cell_at (view at.world cut) page cell ≡ Some top
    → is_top top.flag ≡ true
    → at.world.transaction owner ≡ Some t
    → top.number ≡ t.number
    → IsNamedOrDrafted at owner relation sequence pointer page

-- Both at once.
pub record RowsStand (at : Scene) : Type 0 where
  pub rows : RowsAreNamed at
  pub opens : OpensAreNamed at
