-- Outlines of pages: as much as tells which edits fit.
use Rattle.std.specs.Prelude.{◌≡◌, ℕ, Bool, true, false, not, ◌==◌, ◌&&◌, ◌||◌, if◌then◌else◌, nat_lt, Option, Some, None, length}
use Rattle.fbc_kinds.specs.declared.edits.Edit.{Edit}
use Rattle.fbc_kinds.specs.declared.edits.Edit.TheVariants as edit
use Rattle.fbc_kinds.specs.declared.pages.Page.{Page}
use Rattle.fbc_kinds.specs.declared.pages.Page.TheVariants as page
use Rattle.fbc_kinds.specs.declared.shapes.Shape.{Shape}
use Rattle.fbc_kinds.specs.Edits.{covers, is_version, may_be, stands_in, value_length}
use Rattle.fbc_kinds.specs.Limits.{cells, slots}
use Rattle.fbc_journal_readers.specs.declared.outlines.Outline.{Outline}
use Rattle.fbc_journal_readers.specs.declared.outlines.Outline.TheVariants.{Blank, Inventory, Tip, Pointer, Data}

-- The outline of a page that is no header, with as many slots or cells as its size asks.
abbrev pub HasOutline : Shape → Page → Outline → Type 0
HasOutline shape page.Blank Blank = Unit {0}
HasOutline shape (page.Inventory inventory) (Inventory number sequence) = (inventory.page ≡ number) × (inventory.sequence ≡ sequence)
HasOutline shape (page.Tip tip) (Tip sequence) = tip.sequence ≡ sequence
HasOutline shape (page.Pointer pointer) Pointer = length pointer.slots ≡ slots shape.size
HasOutline shape (page.Data data_page) (Data relation) = (data_page.relation ≡ relation) × (length data_page.cells ≡ cells shape.size (value_length shape relation))
HasOutline shape _ _ = ⊥

-- The outline where the test passes.
abbrev pub outlined : Bool → Outline → Option Outline
outlined true outline = Some outline
outlined false outline = None

-- The outline of the empty page of a kind.
abbrev pub outline_formatted : Shape → ℕ → ℕ → ℕ → ℕ → Option Outline
outline_formatted shape kind number relation sequence =
    if kind == 2 then outlined (not (sequence == 0) || number == 0) (Inventory number sequence)
    else if kind == 3 then Some (Tip sequence)
    else if kind == 4 then outlined (nat_lt relation shape.count) Pointer
    else if kind == 5 then outlined (nat_lt relation shape.count) (Data relation)
    else None

-- Whether an edit fits a page inventory page.
abbrev pub fits_inventory : Shape → ℕ → ℕ → Edit → Bool
fits_inventory shape page sequence (edit.TakePage number) = covers shape.size sequence number
fits_inventory shape page sequence (edit.FreePage number) = covers shape.size sequence number && not (number == 0) && not (number == page)
fits_inventory shape page sequence _ = false

-- Whether an edit fits a transaction inventory page.
abbrev pub fits_tip : Shape → ℕ → Edit → Bool
fits_tip shape sequence (edit.Mark number state) = stands_in shape.size sequence number && may_be number state
fits_tip shape sequence _ = false

-- Whether an edit fits a pointer page.
abbrev pub fits_pointer : Shape → Edit → Bool
fits_pointer shape (edit.Name slot number) = nat_lt slot (slots shape.size)
fits_pointer shape (edit.Unname slot) = nat_lt slot (slots shape.size)
fits_pointer shape _ = false

-- Whether an edit fits a data page.
abbrev pub fits_data : Shape → ℕ → Edit → Bool
fits_data shape relation (edit.PutCell cell content) = nat_lt cell (cells shape.size (value_length shape relation)) && is_version (value_length shape relation) content
fits_data shape relation (edit.ClearCell cell) = nat_lt cell (cells shape.size (value_length shape relation))
fits_data shape relation _ = false

-- Whether an edit other than a format fits.
abbrev pub does_fit : Shape → Outline → Edit → Bool
does_fit shape Blank e = false
does_fit shape (Inventory page sequence) e = fits_inventory shape page sequence e
does_fit shape (Tip sequence) e = fits_tip shape sequence e
does_fit shape Pointer e = fits_pointer shape e
does_fit shape (Data relation) e = fits_data shape relation e

-- The outline after an edit; none where the edit does not fit.
abbrev pub outline_after : Shape → Edit → Outline → Option Outline
outline_after shape (edit.Format kind number relation sequence) outline = outline_formatted shape kind number relation sequence
outline_after shape e outline = outlined (does_fit shape outline e) outline

-- Both are none, or the page has the outline.
abbrev pub Matches : Shape → Option Page → Option Outline → Type 0
Matches shape None None = Unit {0}
Matches shape (Some content) (Some outline) = HasOutline shape content outline
Matches shape _ _ = ⊥
