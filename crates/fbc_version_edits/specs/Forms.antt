-- The forms that edits of cells and marks have, and what a view shows where each may come.
use Rattle.std.specs.Prelude.{◌≡◌, ◌⊎◌, ◌<◌, ◌==◌, ℕ, Option, Some, true, false}
use Rattle.fbc_kinds.specs.declared.edits.Edit.{Edit}
use Rattle.fbc_kinds.specs.declared.edits.Edit.TheVariants as edit
use Rattle.fbc_kinds.specs.declared.pages.Cell.{Cell}
use Rattle.fbc_kinds.specs.declared.pages.Flag.TheVariants as flag
use Rattle.fbc_kinds.specs.declared.pages.Page.{Page}
use Rattle.fbc_kinds.specs.declared.pages.Page.TheVariants as kind
use Rattle.fbc_kinds.specs.declared.pages.State.{State}
use Rattle.fbc_kinds.specs.declared.pages.State.TheVariants.{Committed}
use Rattle.fbc_kinds.specs.declared.shapes.Shape.{Shape}
use Rattle.fbc_kinds.specs.Chain.{state_of}
use Rattle.fbc_kinds.specs.Reach.{DataRole, LinksTo, Reaches}
use Rattle.fbc_kinds.specs.Sound.{IsSound}
use Rattle.fbc_kinds.specs.View.{View, cell_at, is_back, is_committed_state, is_empty, is_top, next_of}
use Rattle.fbc_page_edits.specs.Allowed.{Allows, CarriesPage, Fits}
use Rattle.fbc_page_edits.specs.Edited.{IsOfShape}
use Rattle.fbc_page_edits.specs.Facing.{IsLinked, NameTheSame}

-- A number is marked that was begun; no committed number gets another mark.
pub record AllowsMark (view : View) (number : ℕ) (state : State) : Type 0 where
  pub begun : number < next_of view
  pub stays : (state ≡ Committed) ⊎ (is_committed_state (state_of view number) ≡ false)

-- What a cell of the view holds.
abbrev pub Stands : View → ℕ → ℕ → Cell → Type 0
Stands view page cell version = cell_at view page cell ≡ Some version

-- The number of a version is committed, or not.
abbrev pub IsCommitted : View → Cell → Type 0
IsCommitted view version = is_committed_state (state_of view version.number) ≡ true

abbrev pub IsUncommitted : View → Cell → Type 0
IsUncommitted view version = is_committed_state (state_of view version.number) ≡ false

-- A version that names no back version, and one that names the same back version as another.
abbrev pub NamesNone : Cell → Type 0
NamesNone version = version.back_page ≡ 0

-- A row gets its first version, over an empty cell.
pub record IsFirst (view : View) (page cell : ℕ) (new : Cell) : Type 0 where
  pub old : Cell
  pub stands : Stands view page cell old
  pub over : is_empty old.flag ≡ true
  pub value : new.flag ≡ flag.Primary
  pub alone : NamesNone new
  pub begun : new.number < next_of view

-- The top of a row is replaced by one of the same number with the same link.
pub record IsOwnAgain (view : View) (page cell : ℕ) (new : Cell) : Type 0 where
  pub old : Cell
  pub stands : Stands view page cell old
  pub over : old.flag ≡ flag.Primary
  pub top : is_top new.flag ≡ true
  pub same_number : new.number ≡ old.number
  pub link : NameTheSame old new

-- A row gets a new top over a committed one, which stands as a back value where the new one's link leads, in a page that is
-- named for the relation; no version that is reached names that cell yet.
pub record IsOver (view : View) (relation page cell : ℕ) (new : Cell) : Type 0 where
  pub old : Cell
  pub stands : Stands view page cell old
  pub over : old.flag ≡ flag.Primary
  pub committed : IsCommitted view old
  pub top : is_top new.flag ≡ true
  pub newer : old.number < new.number
  pub begun : new.number < next_of view
  pub linked : (new.back_page == 0) ≡ false
  pub sequence : ℕ
  pub named : Reaches view (DataRole relation sequence) new.back_page
  pub below : Stands view new.back_page new.back_cell (record old { flag = flag.Back })
  pub unreached : ¬ IsLinked view new.back_page new.back_cell

-- A back value is put into an empty cell.
pub record IsMove (view : View) (page cell : ℕ) (new : Cell) : Type 0 where
  pub old : Cell
  pub stands : Stands view page cell old
  pub over : is_empty old.flag ≡ true
  pub value : is_back new.flag ≡ true
  pub begun : new.number < next_of view

-- The back version of a top becomes the primary, with its link or with none.
pub record IsRaised (view : View) (new : Cell) (back_page back_cell : ℕ) : Type 0 where
  pub below : Cell
  pub stands : Stands view back_page back_cell below
  pub same_number : new.number ≡ below.number
  pub same_value : new.value ≡ below.value
  pub link : NamesNone new ⊎ NameTheSame below new

-- The top of a row, which is not committed, is taken back. Where the view reaches its back version, that one becomes the
-- primary.
pub record IsBackout (view : View) (page cell : ℕ) (new : Cell) : Type 0 where
  pub old : Cell
  pub stands : Stands view page cell old
  pub over : is_top old.flag ≡ true
  pub uncommitted : IsUncommitted view old
  pub value : new.flag ≡ flag.Primary
  pub linked : (old.back_page == 0) ≡ false
  pub raised : (relation : ℕ) → LinksTo view relation page cell old old.back_page old.back_cell → IsRaised view new old.back_page old.back_cell

-- A version loses its link.
pub record IsCut (view : View) (page cell : ℕ) (new : Cell) : Type 0 where
  pub old : Cell
  pub stands : Stands view page cell old
  pub linked : (old.back_page == 0) ≡ false
  pub same : new ≡ record old { back_page = 0; back_cell = 0 }

pub data AllowsPut (view : View) (relation page cell : ℕ) (new : Cell) : Type 0 where
  first : IsFirst view page cell new → AllowsPut view relation page cell new
  own_again : IsOwnAgain view page cell new → AllowsPut view relation page cell new
  over : IsOver view relation page cell new → AllowsPut view relation page cell new
  move : IsMove view page cell new → AllowsPut view relation page cell new
  backout : IsBackout view page cell new → AllowsPut view relation page cell new
  cut : IsCut view page cell new → AllowsPut view relation page cell new

abbrev pub AllowsPutOn : View → ℕ → ℕ → Cell → Option Page → Type 0
AllowsPutOn view page cell new (Some (kind.Data d)) = AllowsPut view d.relation page cell new
AllowsPutOn view page cell new _ = ⊥

-- The only version of a row stands there, and is not committed.
pub record IsLoneVersion (view : View) (page cell : ℕ) : Type 0 where
  pub old : Cell
  pub stands : Stands view page cell old
  pub top : is_top old.flag ≡ true
  pub uncommitted : IsUncommitted view old
  pub alone : NamesNone old

-- The deletion of a row stands there, and is committed.
pub record IsDeletedRow (view : View) (page cell : ℕ) : Type 0 where
  pub old : Cell
  pub stands : Stands view page cell old
  pub deletion : old.flag ≡ flag.Deletion
  pub committed : IsCommitted view old

-- A back value stands there that no version which is reached names.
pub record IsUnnamedValue (view : View) (page cell : ℕ) : Type 0 where
  pub old : Cell
  pub stands : Stands view page cell old
  pub value : is_back old.flag ≡ true
  pub unnamed : ¬ IsLinked view page cell

-- What may be cleared: the only version of a row, a deletion, or a back value.
pub data AllowsClear (view : View) (page cell : ℕ) : Type 0 where
  lone : IsLoneVersion view page cell → AllowsClear view page cell
  deleted : IsDeletedRow view page cell → AllowsClear view page cell
  unnamed : IsUnnamedValue view page cell → AllowsClear view page cell

-- What the view shows where an edit of any kind may come.
abbrev pub Admits : Shape → View → ℕ → Edit → Type 0
Admits shape view edited (edit.Mark number state) = AllowsMark view number state
Admits shape view edited (edit.PutCell cell new) = AllowsPutOn view edited cell new (view edited)
Admits shape view edited (edit.ClearCell cell) = AllowsClear view edited cell
Admits shape view edited any = Allows shape view edited any

-- An edit of a page of a sound view may come, and makes this content of the page.
pub record IsAdmittedEdit (shape : Shape) (view : View) (number : ℕ) (any : Edit) (content : Page) : Type 0 where
  pub of_shape : IsOfShape shape view
  pub sound : IsSound view
  pub own : CarriesPage number any
  pub fits : Fits shape any (view number) content
  pub allowed : Admits shape view number any
