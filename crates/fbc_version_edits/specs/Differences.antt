-- What an edit of one cell leaves as it was, and what it does to a chain.
use Rattle.std.specs.Prelude.{◌≡◌, ℕ, List, [], ◌∷◌, Some, true}
use Rattle.fbc_kinds.specs.declared.pages.Cell.{Cell}
use Rattle.fbc_kinds.specs.Chain.{Version}
use Rattle.fbc_kinds.specs.Lost.{IsLostCell}
use Rattle.fbc_kinds.specs.Reach.{LinksTo, NamesBack, Role, page_for}
use Rattle.fbc_kinds.specs.View.{View, cell_at, header_of, is_top}
use Rattle.fbc_page_edits.specs.Facing.{IsRowAt}

-- One place is another.
abbrev pub IsPlace : ℕ → ℕ → ℕ → ℕ → Type 0
IsPlace page cell other place = (other ≡ page) × (place ≡ cell)

-- The later view has the same header, and names the same pages for the same.
pub record NamesTheSame (before after : View) : Type 0 where
  pub header : header_of after ≡ header_of before
  pub named : (role : Role) → page_for after role ≡ page_for before role

-- Each link of the later view from another cell is one of the earlier view.
abbrev pub HasOtherLinks : ℕ → ℕ → View → View → Type 0
HasOtherLinks page cell before after = (relation other place back_page back_cell : ℕ) (version : Cell) → ¬ IsPlace page cell other place
    → LinksTo after relation other place version back_page back_cell → LinksTo before relation other place version back_page back_cell

-- Cells that are lost stay lost, this one apart.
abbrev pub KeepsLostCellsBut : ℕ → ℕ → View → View → Type 0
KeepsLostCellsBut page cell before after = (other place : ℕ) → ¬ IsPlace page cell other place → IsLostCell before other place → IsLostCell after other place

-- A chain begins with this version.
pub record BeginsWith (version : Version) (versions : List Version) : Type 0 where
  pub older : List Version
  pub whole : versions ≡ version ∷ older

-- A row's chain goes through a cell: the row's top stands there, or a version in another cell that the chain goes through
-- names it as its back version's.
pub data GoesThrough (view : View) (relation row : ℕ) : ℕ → ℕ → Type 0 where
  begins : (page cell : ℕ) (version : Cell)
      → IsRowAt view relation row page cell
      → cell_at view page cell ≡ Some version
      → is_top version.flag ≡ true
      → GoesThrough view relation row page cell
  goes_on : (page cell back_page back_cell : ℕ) (version : Cell)
      → GoesThrough view relation row page cell
      → cell_at view page cell ≡ Some version
      → NamesBack version back_page back_cell
      → GoesThrough view relation row back_page back_cell

-- Only the newest version of a chain is another one.
pub record HasOtherTop (old new : Version) (before after : List Version) : Type 0 where
  pub older : List Version
  pub was : before ≡ old ∷ older
  pub is : after ≡ new ∷ older

-- The newest version of a chain is taken back, and the next one stands alone.
pub record IsLeftAlone (old new : Version) (before after : List Version) : Type 0 where
  pub older : List Version
  pub whole : before ≡ old ∷ new ∷ older
  pub left : after ≡ new ∷ []

-- A link after a new version came over an old one: it was there, or leads from the new version to its back version, or from
-- there to where the old one led.
pub data IsLinkOver (before : View) (relation page cell : ℕ) (old new : Cell) (other place : ℕ) (version : Cell) (back_page back_cell : ℕ) : Type 0 where
  kept : LinksTo before relation other place version back_page back_cell → IsLinkOver before relation page cell old new other place version back_page back_cell
  made : IsPlace page cell other place → IsPlace new.back_page new.back_cell back_page back_cell → IsLinkOver before relation page cell old new other place version back_page back_cell
  taken_along : IsPlace new.back_page new.back_cell other place → LinksTo before relation page cell old back_page back_cell
      → IsLinkOver before relation page cell old new other place version back_page back_cell

-- The back version of a version leads to a cell.
pub record LinksBelow (view : View) (relation : ℕ) (version : Cell) (back_page back_cell : ℕ) : Type 0 where
  pub below : Cell
  pub links : LinksTo view relation version.back_page version.back_cell below back_page back_cell
