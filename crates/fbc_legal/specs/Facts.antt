-- What one page shows, by its content and by the stamps of that.
use Rattle.std.specs.Prelude.{◌≡◌, ◌<◌, ◌%◌, ℕ, List, Contains, Option, Some, true, slice_get}
use Rattle.fbc_kinds.specs.declared.pages.Cell.{Cell}
use Rattle.fbc_kinds.specs.declared.pages.Header.{Header}
use Rattle.fbc_kinds.specs.declared.pages.Page.{Page}
use Rattle.fbc_kinds.specs.declared.pages.Page.TheVariants as kind
use Rattle.fbc_kinds.specs.declared.pages.Relation.{Relation}
use Rattle.fbc_kinds.specs.declared.shapes.Shape.{Shape}
use Rattle.fbc_kinds.specs.Edits.{formatted}
use Rattle.fbc_kinds.specs.Limits.{inventory_bits}
use Rattle.fbc_kinds.specs.Reach.{InventoryRole, shows_role}
use Rattle.fbc_kinds.specs.View.{cell_in, header_in, is_back, is_empty, mark_in, slot_in}
use Rattle.fbc_legal.specs.Stamps.{Stamps}

abbrev pub Fact : Type 1
Fact = Option Page → Stamps → Type 0

-- A page inventory shows the page as taken.
abbrev pub ShowsTaken : ℕ → ℕ → Fact
ShowsTaken size page content stamps = mark_in content (page % inventory_bits size) ≡ Some true

-- It is the page inventory of this sequence.
abbrev pub IsInventory : ℕ → ℕ → Fact
IsInventory number sequence content stamps = shows_role (InventoryRole sequence) number content ≡ true

-- A header counts the page inventory of this sequence.
abbrev pub Counts : ℕ → Fact
Counts sequence content stamps = (header : Header) × (header_in content ≡ Some header) × (sequence < header.inventories)

-- A header's next number is greater than this one.
abbrev pub HasNextAbove : ℕ → Fact
HasNextAbove number content stamps = (header : Header) × (header_in content ≡ Some header) × (number < header.next)

-- A header, or a pointer page, names the page.
pub data Names (content : Option Page) (page : ℕ) : Type 0 where
  tip : (header : Header) → header_in content ≡ Some header → Contains header.tips page → Names content page
  pointer : (header : Header) (relation : ℕ) (entry : Relation)
      → header_in content ≡ Some header
      → slice_get header.relations relation ≡ Some entry
      → Contains entry.pointers page
      → Names content page
  slot : (place : ℕ) → slot_in content place ≡ Some page → Names content page

abbrev pub NamesNot : ℕ → Fact
NamesNot page content stamps = ¬ Names content page

-- A header names the page as the pointer page of this sequence of the relation.
abbrev pub NamesPointer : ℕ → ℕ → ℕ → Fact
NamesPointer relation sequence page content stamps =
    (header : Header) × (entry : Relation) × (header_in content ≡ Some header)
    × (slice_get header.relations relation ≡ Some entry)
    × (slice_get entry.pointers sequence ≡ Some page)

-- A pointer page names the page in this slot.
abbrev pub NamesInSlot : ℕ → ℕ → Fact
NamesInSlot place page content stamps = slot_in content place ≡ Some page

-- It is the empty page of this kind, relation and sequence.
abbrev pub IsEmptyPage : Shape → ℕ → ℕ → ℕ → ℕ → Fact
IsEmptyPage shape page_kind number relation sequence content stamps =
    (page : Page) × (content ≡ Some page) × (formatted shape page_kind number relation sequence ≡ Some page)

-- It is a data page of the relation, and this back value, of a smaller number, stands in the cell.
pub record HoldsBack (relation cell number stamp : ℕ) (content : Option Page) (stamps : Stamps) : Type 0 where
  pub sequence : ℕ
  pub page : ℕ
  pub cells : List Cell
  pub back : Cell
  pub is : content ≡ Some (kind.Data (record { page = page; relation = relation; sequence = sequence; cells = cells }))
  pub stands : cell_in content cell ≡ Some back
  pub is_value : is_back back.flag ≡ true
  pub smaller : back.number < number
  pub same : stamps.born cell ≡ stamp

-- This content of this stamp stands in the cell.
abbrev pub HoldsCell : ℕ → Cell → ℕ → Fact
HoldsCell cell version stamp content stamps = (cell_in content cell ≡ Some version) × (stamps.born cell ≡ stamp)

-- The content has taken in the edit of this number.
abbrev pub HasTaken : ℕ → Fact
HasTaken stamp content stamps = Contains stamps.edits stamp

-- No cell holds a version.
abbrev pub HasNoVersion : Fact
HasNoVersion content stamps = (cell : ℕ) (version : Cell) → cell_in content cell ≡ Some version → is_empty version.flag ≡ true
