-- Which edits there are: changes, moves, backouts, cuts and clearings of versions; marks of numbers; pages that are taken,
-- made, named and freed.
use Rattle.std.specs.Prelude.{◌≡◌, ◌≢◌, ◌⊎◌, ◌%◌, ℕ, suc, true, false, Some}
use Rattle.fbc_kinds.specs.declared.edits.Edit.{Edit}
use Rattle.fbc_kinds.specs.declared.edits.Edit.TheVariants as edit
use Rattle.fbc_kinds.specs.declared.pages.Cell.{Cell}
use Rattle.fbc_kinds.specs.declared.pages.Flag.TheVariants as flag
use Rattle.fbc_kinds.specs.declared.pages.State.{State}
use Rattle.fbc_kinds.specs.declared.pages.State.TheVariants.{Committed, Dead, Active}
use Rattle.fbc_kinds.specs.declared.snapshots.Transaction.{Transaction}
use Rattle.fbc_kinds.specs.Chain.{state_of}
use Rattle.fbc_kinds.specs.Limits.{inventory_bits}
use Rattle.fbc_kinds.specs.Machine.{is_held}
use Rattle.fbc_kinds.specs.Reach.{ReachesCell}
use Rattle.fbc_kinds.specs.View.{cell_at, inventory_of, is_back, is_committed_state, is_empty, is_top, mark_in, next_of, slot_in}
use Rattle.fbc_levels.specs.declared.levels.Level.TheVariants.{Sr}
use Rattle.fbc_page_edits.specs.Facing.{IsLinked, NameTheSame}
use Rattle.fbc_legal.specs.Scene.{Scene, HasDraft, HasExclusive, born_at, meant_at, newest_at, number_resource}
use Rattle.fbc_legal.specs.Traces.{IsMovedBy, IsTakenBy, IsUnnamedBy}

-- The owner's open transaction.
abbrev pub HasOpen : Scene → ℕ → Transaction → Type 0
HasOpen at owner t = at.world.transaction owner ≡ Some t

-- The version that stands in the cell, in the newest pages.
abbrev pub Stands : Scene → ℕ → ℕ → Cell → Type 0
Stands at page cell version = cell_at (newest_at at) page cell ≡ Some version

-- A version as a back value, and as a primary.
abbrev pub as_back : Cell → Cell
as_back version = record version { flag = flag.Back }

abbrev pub as_primary : Cell → Cell
as_primary version = record version { flag = flag.Primary }

-- A version that names no back version.
abbrev pub without_link : Cell → Cell
without_link version = record version { back_page = 0; back_cell = 0 }

-- A change over an empty cell: a value of the open number, without a back version.
pub record IsFirstVersion (at : Scene) (owner page cell : ℕ) (content : Cell) : Type 0 where
  pub t : Transaction
  pub old : Cell
  pub open_is : HasOpen at owner t
  pub stands : Stands at page cell old
  pub over : is_empty old.flag ≡ true
  pub value : content.flag ≡ flag.Primary
  pub own : content.number ≡ t.number
  pub alone : content.back_page ≡ 0

-- A change over a value of the open number itself: it keeps that one's link.
pub record IsOwnChange (at : Scene) (owner page cell : ℕ) (content : Cell) : Type 0 where
  pub t : Transaction
  pub old : Cell
  pub open_is : HasOpen at owner t
  pub stands : Stands at page cell old
  pub over : old.flag ≡ flag.Primary
  pub over_own : old.number ≡ t.number
  pub top : is_top content.flag ≡ true
  pub own : content.number ≡ t.number
  pub link : NameTheSame old content

-- A change over a value that the owner's snapshot holds: it names that value as its back version, where the owner has
-- moved it. If that value has a link, the moved one means the same by it.
pub record IsNewVersion (at : Scene) (owner page cell : ℕ) (content : Cell) : Type 0 where
  pub t : Transaction
  pub old : Cell
  pub open_is : HasOpen at owner t
  pub stands : Stands at page cell old
  pub over : old.flag ≡ flag.Primary
  pub over_other : old.number ≢ t.number
  pub held : is_held t.snapshot old.number ≡ true
  pub top : is_top content.flag ≡ true
  pub own : content.number ≡ t.number
  pub moved : IsMovedBy at.shape at.file owner content.back_page content.back_cell (born_at at content.back_page content.back_cell) at.past
  pub back : Stands at content.back_page content.back_cell (as_back old)
  pub same_meant : old.back_page ≢ 0 → meant_at at content.back_page content.back_cell ≡ meant_at at page cell

-- A move: a top version of a page that the owner has in EX, as a back value in an empty cell.
pub record IsMove (at : Scene) (owner page cell : ℕ) (content : Cell) : Type 0 where
  pub top_page : ℕ
  pub top_cell : ℕ
  pub top : Cell
  pub old : Cell
  pub stands : Stands at page cell old
  pub over : is_empty old.flag ≡ true
  pub from : Stands at top_page top_cell top
  pub is_first : is_top top.flag ≡ true
  pub exclusive : HasExclusive at owner top_page
  pub same : content ≡ as_back top

-- A backout: over a top version whose number is marked dead the back version becomes the primary.
pub record IsBackout (at : Scene) (page cell : ℕ) (content : Cell) : Type 0 where
  pub old : Cell
  pub back : Cell
  pub stands : Stands at page cell old
  pub over : is_top old.flag ≡ true
  pub dead : state_of (newest_at at) old.number ≡ Dead
  pub linked : old.back_page ≢ 0
  pub below : Stands at old.back_page old.back_cell back
  pub same : content ≡ as_primary back

-- Every open snapshot holds the number.
abbrev pub IsHeldByAll : Scene → ℕ → Type 0
IsHeldByAll at number = (other : ℕ) (t : Transaction) → HasOpen at other t → is_held t.snapshot number ≡ true

-- The number is committed in the file, and every open snapshot holds it.
pub record IsSettled (at : Scene) (number : ℕ) : Type 0 where
  pub committed : is_committed_state (state_of at.world.kept number) ≡ true
  pub held : IsHeldByAll at number

-- A cut: a version that is reached, committed and held by all loses its link.
pub record IsCut (at : Scene) (page cell : ℕ) (content : Cell) : Type 0 where
  pub relation : ℕ
  pub old : Cell
  pub stands : Stands at page cell old
  pub reached : ReachesCell (newest_at at) relation page cell
  pub settled : IsSettled at old.number
  pub linked : old.back_page ≢ 0
  pub same : content ≡ without_link old

-- What may be put into a cell.
pub data IsPut (at : Scene) (owner page cell : ℕ) (content : Cell) : Type 0 where
  first : IsFirstVersion at owner page cell content → IsPut at owner page cell content
  over_own : IsOwnChange at owner page cell content → IsPut at owner page cell content
  over : IsNewVersion at owner page cell content → IsPut at owner page cell content
  move : IsMove at owner page cell content → IsPut at owner page cell content
  backout : IsBackout at page cell content → IsPut at owner page cell content
  cut : IsCut at page cell content → IsPut at owner page cell content

-- What may be cleared: a top version whose number is marked dead and that has no back version; a deletion that is
-- committed and held by all; a back value that is not reached.
pub data IsClearing (at : Scene) (page cell : ℕ) : Type 0 where
  backout : (old : Cell)
      → Stands at page cell old
      → is_top old.flag ≡ true
      → state_of (newest_at at) old.number ≡ Dead
      → old.back_page ≡ 0
      → IsClearing at page cell
  deleted : (old : Cell)
      → Stands at page cell old
      → old.flag ≡ flag.Deletion
      → IsSettled at old.number
      → IsClearing at page cell
  unreached : (old : Cell)
      → Stands at page cell old
      → is_back old.flag ≡ true
      → ¬ IsLinked (newest_at at) page cell
      → IsClearing at page cell

-- The owner's open number is marked committed, when it has no draft of another page; or dead; or a number on which the
-- owner has SR, and which is active, is marked dead.
abbrev pub IsCommitMark : Scene → ℕ → ℕ → ℕ → Type 0
IsCommitMark at owner page number = (t : Transaction) × HasOpen at owner t × (number ≡ t.number) × ((other : ℕ) → HasDraft at owner other → other ≡ page)

abbrev pub IsDeadMark : Scene → ℕ → ℕ → Type 0
IsDeadMark at owner number =
    ((t : Transaction) × HasOpen at owner t × (number ≡ t.number))
    ⊎ ((at.world.granted owner (number_resource number) ≡ Sr) × (state_of (newest_at at) number ≡ Active))

abbrev pub IsMark : Scene → ℕ → ℕ → ℕ → State → Type 0
IsMark at owner page number Committed = IsCommitMark at owner page number
IsMark at owner page number Dead = IsDeadMark at owner number
IsMark at owner page number _ = ⊥

-- The header counts no page inventory that stands there.
abbrev pub IsNoInventory : Scene → ℕ → Type 0
IsNoInventory at page = (sequence : ℕ) → ¬ (inventory_of (newest_at at) sequence ≡ Some page)

-- A page is freed that is neither the header nor a page inventory, and that the owner's own edit unnamed last.
pub record IsFreeing (at : Scene) (owner page : ℕ) : Type 0 where
  pub no_header : page ≢ 0
  pub no_inventory : IsNoInventory at page
  pub unnamed : IsUnnamedBy at.shape at.file owner page at.past

-- A page is made that is neither the header nor a page inventory that the header counts; unless it becomes a page
-- inventory, the owner has taken it.
pub record IsFormat (at : Scene) (owner page page_kind : ℕ) : Type 0 where
  pub no_header : page ≢ 0
  pub no_inventory : IsNoInventory at page
  pub taken : page_kind ≢ 2 → IsTakenBy at.shape at.file owner page at.past

-- The next number becomes one more than the owner's open number, which was the next.
abbrev pub IsNext : Scene → ℕ → ℕ → Type 0
IsNext at owner next = (t : Transaction) × HasOpen at owner t × (t.number ≡ next_of (newest_at at)) × (next ≡ suc t.number)

-- A page is taken that is free.
abbrev pub IsTaking : Scene → ℕ → ℕ → Type 0
IsTaking at page number = mark_in (newest_at at page) (number % inventory_bits at.shape.size) ≡ Some false

-- A slot is filled that names no page.
abbrev pub IsNaming : Scene → ℕ → ℕ → Type 0
IsNaming at page slot = slot_in (newest_at at page) slot ≡ Some 0

-- What each edit of a page by the owner may be.
abbrev pub IsEditOfRow : Scene → ℕ → ℕ → Edit → Type 0
IsEditOfRow at owner page (edit.SetNext next) = IsNext at owner next
IsEditOfRow at owner page (edit.TakePage number) = IsTaking at page number
IsEditOfRow at owner page (edit.FreePage number) = IsFreeing at owner number
IsEditOfRow at owner page (edit.Mark number state) = IsMark at owner page number state
IsEditOfRow at owner page (edit.Name slot number) = IsNaming at page slot
IsEditOfRow at owner page (edit.PutCell cell content) = IsPut at owner page cell content
IsEditOfRow at owner page (edit.ClearCell cell) = IsClearing at page cell
IsEditOfRow at owner page (edit.Format page_kind number relation sequence) = IsFormat at owner page page_kind
IsEditOfRow at owner page _ = Unit {0}
