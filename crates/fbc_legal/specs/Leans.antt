-- What an edit leans on: facts that other pages show now, and will show in the file before the edited page is written.
use Rattle.std.specs.Prelude.{◌≡◌, ◌≢◌, ◌⊎◌, ◌/◌, ◌%◌, ◌*◌, ◌+◌, ℕ, ◌&&◌, true, length, Option, Some, None}
use Rattle.fbc_kinds.specs.declared.edits.Edit.{Edit}
use Rattle.fbc_kinds.specs.declared.edits.Edit.TheVariants as edit
use Rattle.fbc_kinds.specs.declared.pages.Cell.{Cell}
use Rattle.fbc_kinds.specs.declared.pages.Header.{Header}
use Rattle.fbc_kinds.specs.declared.pages.Page.{Page}
use Rattle.fbc_kinds.specs.declared.pages.Page.TheVariants as kind
use Rattle.fbc_kinds.specs.declared.pages.Relation.{Relation}
use Rattle.fbc_kinds.specs.Limits.{inventory_bits, slots}
use Rattle.fbc_kinds.specs.Reach.{DataRole, NamesBack, Reaches}
use Rattle.fbc_kinds.specs.View.{View, cell_at, header_in, inventory_page, is_back, is_top, named_in, pointer_of, relation_of}
use Rattle.fbc_legal.specs.Facts.{Fact, Counts, HasNextAbove, HasNoVersion, HasTaken, HoldsBack, HoldsCell, IsEmptyPage, IsInventory, Names, NamesInSlot, NamesNot, NamesPointer, ShowsTaken}
use Rattle.fbc_legal.specs.Scene.{Scene, HasDraft, HasExclusive, IsBefore, born_at, newest_at}
use Rattle.fbc_legal.specs.Stamps.{newest_stamps, takes_link}
use Rattle.fbc_legal.specs.Traces.{IsUnlinkedBy, inventory_over}

-- The page's newest content shows the fact. Unless it is the edited page itself, the file shows it too, or the draft that
-- shows it is the owner's and is to be written before the edited page.
pub record IsShown (at : Scene) (owner edited page : ℕ) (fact : Fact) : Type 0 where
  pub newest : fact (newest_at at page) (newest_stamps at.world at.stamps page)
  pub in_time : (page ≡ edited) ⊎ fact (at.world.kept page) (at.stamps.kept page) ⊎ (HasDraft at owner page × IsBefore at page edited)

-- The page inventory that covers a page shows it as taken, and the header counts that page inventory.
pub record IsInUse (at : Scene) (owner edited page : ℕ) : Type 0 where
  pub taken : IsShown at owner edited (inventory_over at.shape page) (ShowsTaken at.shape.size page)
  pub counted : IsShown at owner edited 0 (Counts (page / inventory_bits at.shape.size))

-- The pointer page does not name the page; and in the file neither, or it will not when the edited page is written, or the
-- header names that pointer page only after a write that shows it so.
pub record IsNotNamedBy (at : Scene) (owner edited pointer page : ℕ) : Type 0 where
  pub newest : ¬ Names (newest_at at pointer) page
  pub in_time : (¬ Names (at.world.kept pointer) page)
      ⊎ (HasDraft at owner pointer × IsBefore at pointer edited)
      ⊎ ((¬ Names (at.world.kept 0) pointer) × IsBefore at pointer 0)

-- Neither the header nor a pointer page that it names names the page.
pub record IsNamedNowhere (at : Scene) (owner edited page : ℕ) : Type 0 where
  pub header : IsShown at owner edited 0 (NamesNot page)
  pub pointers : (relation sequence pointer : ℕ)
      → pointer_of (newest_at at) relation sequence ≡ Some pointer
      → IsNotNamedBy at owner edited pointer page

-- A page is made that is named nowhere; unless it becomes a page inventory, it was marked as taken before.
pub record FormatLeans (at : Scene) (owner edited page_kind : ℕ) : Type 0 where
  pub nowhere : IsNamedNowhere at owner edited edited
  pub used : page_kind ≢ 2 → IsInUse at owner edited edited

-- A page that is to be named is the empty page of its kind, relation and sequence, and in use.
pub record IsReady (at : Scene) (owner edited page page_kind relation sequence : ℕ) : Type 0 where
  pub empty : IsShown at owner edited page (IsEmptyPage at.shape page_kind page relation sequence)
  pub used : IsInUse at owner edited page

-- A header counts one more page inventory: the next one has its kind and sequence.
abbrev pub InventoryLeans : Scene → ℕ → ℕ → Option Header → Type 0
InventoryLeans at owner edited None = ⊥
InventoryLeans at owner edited (Some header) =
    IsShown at owner edited (inventory_page at.shape.size header.inventories) (IsInventory (inventory_page at.shape.size header.inventories) header.inventories)

-- A header names one more transaction inventory page, which the owner has in EX.
abbrev pub TipLeans : Scene → ℕ → ℕ → ℕ → Option Header → Type 0
TipLeans at owner edited page None = ⊥
TipLeans at owner edited page (Some header) = IsReady at owner edited page 3 0 (length header.tips) × HasExclusive at owner page

-- A header names one more pointer page of a relation, which the owner has in EX.
abbrev pub PointerLeans : Scene → ℕ → ℕ → ℕ → ℕ → Option Relation → Type 0
PointerLeans at owner edited page relation None = ⊥
PointerLeans at owner edited page relation (Some entry) = IsReady at owner edited page 4 relation (length entry.pointers) × HasExclusive at owner page

-- A pointer page names one more data page.
abbrev pub NameLeans : Scene → ℕ → ℕ → ℕ → ℕ → Option Page → Type 0
NameLeans at owner edited slot page (Some (kind.Pointer pointer)) =
    IsReady at owner edited page 5 pointer.relation (pointer.sequence * slots at.shape.size + slot)
NameLeans at owner edited slot page _ = ⊥

-- A version names a back version: that one stands there as the newest pages have it, in a data page of the relation that
-- the relation's pointer page names, and the header names that pointer page.
pub record LinkLeans (at : Scene) (owner edited relation : ℕ) (content : Cell) : Type 0 where
  pub sequence : ℕ
  pub pointer : ℕ
  pub back : IsShown at owner edited content.back_page (HoldsBack relation content.back_cell content.number (born_at at content.back_page content.back_cell))
  pub named : IsShown at owner edited pointer (NamesInSlot (sequence % slots at.shape.size) content.back_page)
  pub pointed : IsShown at owner edited 0 (NamesPointer relation (sequence / slots at.shape.size) pointer)

abbrev pub MayLink : Scene → ℕ → ℕ → ℕ → Cell → Type 0
MayLink at owner edited relation content = content.back_page ≢ 0 → LinkLeans at owner edited relation content

-- The chain of the version in the first cell leads to the second one.
pub data LeadsTo (view : View) (page cell : ℕ) : ℕ → ℕ → Type 0 where
  straight : (back_page back_cell : ℕ) (version : Cell)
      → cell_at view page cell ≡ Some version
      → NamesBack version back_page back_cell
      → LeadsTo view page cell back_page back_cell
  along : (between_page between_cell back_page back_cell : ℕ) (version : Cell)
      → LeadsTo view page cell between_page between_cell
      → cell_at view between_page between_cell ≡ Some version
      → NamesBack version back_page back_cell
      → LeadsTo view page cell back_page back_cell

-- The link of a back value is taken: the top of its row stands as the newest pages have it, and the owner has that page
-- in EX.
pub record CutLeans (at : Scene) (owner edited cell : ℕ) : Type 0 where
  pub relation : ℕ
  pub sequence : ℕ
  pub page : ℕ
  pub place : ℕ
  pub top : Cell
  pub named : Reaches (newest_at at) (DataRole relation sequence) page
  pub stands : cell_at (newest_at at) page place ≡ Some top
  pub is_first : is_top top.flag ≡ true
  pub leads : LeadsTo (newest_at at) page place edited cell
  pub shown : IsShown at owner edited page (HoldsCell place top (born_at at page place))
  pub exclusive : HasExclusive at owner page

abbrev pub MayCut : Scene → ℕ → ℕ → ℕ → Cell → Option Cell → Type 0
MayCut at owner edited cell content None = ⊥
MayCut at owner edited cell content (Some old) = is_back old.flag && takes_link old content ≡ true → CutLeans at owner edited cell

-- A version is put into a cell of a data page: its number was begun, and what it names stands.
pub record PutLeans (at : Scene) (owner edited relation cell : ℕ) (content : Cell) : Type 0 where
  pub begun : IsShown at owner edited 0 (HasNextAbove content.number)
  pub link : MayLink at owner edited relation content
  pub cut : MayCut at owner edited cell content (cell_at (newest_at at) edited cell)

abbrev pub PutLeansOn : Scene → ℕ → ℕ → ℕ → Cell → Option Page → Type 0
PutLeansOn at owner edited cell content (Some (kind.Data d)) = PutLeans at owner edited d.relation cell content
PutLeansOn at owner edited cell content _ = ⊥

-- A back value is cleared: the owner's edit by which it came to be reached no more is in the file or in time, and the
-- owner has the page of that edit in EX.
pub record ClearLeans (at : Scene) (owner edited cell : ℕ) : Type 0 where
  pub page : ℕ
  pub stamp : ℕ
  pub unlinked : IsUnlinkedBy at.shape at.file edited cell owner page stamp at.past
  pub shown : IsShown at owner edited page (HasTaken stamp)
  pub exclusive : HasExclusive at owner page

abbrev pub MayClear : Scene → ℕ → ℕ → ℕ → Option Cell → Type 0
MayClear at owner edited cell None = ⊥
MayClear at owner edited cell (Some old) = is_back old.flag ≡ true → ClearLeans at owner edited cell

-- A data page is named no more: it has no version, and the owner has it in EX.
pub record UnnameLeans (at : Scene) (owner edited page : ℕ) : Type 0 where
  pub empty : IsShown at owner edited page HasNoVersion
  pub exclusive : HasExclusive at owner page

-- What each edit of a page by the owner leans on.
abbrev pub LeansOn : Scene → ℕ → ℕ → Edit → Type 0
LeansOn at owner edited (edit.SetNext next) = Unit {0}
LeansOn at owner edited (edit.AddTip page) = TipLeans at owner edited page (header_in (newest_at at edited))
LeansOn at owner edited (edit.AddPointer relation page) = PointerLeans at owner edited page relation (relation_of (newest_at at) relation)
LeansOn at owner edited edit.AddInventory = InventoryLeans at owner edited (header_in (newest_at at edited))
LeansOn at owner edited (edit.TakePage page) = Unit {0}
LeansOn at owner edited (edit.FreePage page) = IsNamedNowhere at owner edited page
LeansOn at owner edited (edit.Mark number state) = IsShown at owner edited 0 (HasNextAbove number)
LeansOn at owner edited (edit.Name slot page) = NameLeans at owner edited slot page (newest_at at edited)
LeansOn at owner edited (edit.Unname slot) = (page : ℕ) → named_in (newest_at at edited) slot ≡ Some page → UnnameLeans at owner edited page
LeansOn at owner edited (edit.PutCell cell content) = PutLeansOn at owner edited cell content (newest_at at edited)
LeansOn at owner edited (edit.ClearCell cell) = MayClear at owner edited cell (cell_at (newest_at at) edited cell)
LeansOn at owner edited (edit.Format page_kind page relation sequence) = FormatLeans at owner edited page_kind
