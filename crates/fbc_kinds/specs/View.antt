-- A view of a file: which page stands where, and what the pages name.
use Rattle.std.specs.Prelude.{ℕ, ◌*◌, ◌/◌, ◌%◌, ◌==◌, Bool, true, false, nat_lt, Option, Some, None, if◌then◌else◌, slice_get}
use Rattle.std.specs.Option.{option_and_then, option_map_or}
use Rattle.fbc_kinds.specs.declared.pages.Page.{Page}
use Rattle.fbc_kinds.specs.declared.pages.Page.TheVariants as kind
use Rattle.fbc_kinds.specs.declared.pages.Header.{Header}
use Rattle.fbc_kinds.specs.declared.pages.Relation.{Relation}
use Rattle.fbc_kinds.specs.declared.pages.Cell.{Cell}
use Rattle.fbc_kinds.specs.declared.pages.Flag.{Flag}
use Rattle.fbc_kinds.specs.declared.pages.Flag.TheVariants as flag
use Rattle.fbc_kinds.specs.declared.pages.State.{State}
use Rattle.fbc_kinds.specs.declared.pages.State.TheVariants as state
use Rattle.fbc_kinds.specs.Limits.{inventory_bits, slots}

-- A view gives each page number the page that stands there, or None where the bytes there spell no page. Past the
-- file's end all pages are blank.
abbrev pub View : Type 0
View = ℕ → Option Page

-- Where the page inventory of a sequence stands: the first is page 1, each other one the first page that it covers.
abbrev pub inventory_page : ℕ → ℕ → ℕ
inventory_page size sequence = if sequence == 0 then 1 else sequence * inventory_bits size

-- The header, where page 0 is one.
abbrev pub header_in : Option Page → Option Header
header_in (Some (kind.Header h)) = Some h
header_in _ = None

abbrev pub header_of : View → Option Header
header_of view = header_in (view 0)

-- The bytes of a page and the next transaction number, as the header has them.
abbrev pub size_of : View → ℕ
size_of view = option_map_or (λ (h : Header). h.size) (header_of view) 0

abbrev pub next_of : View → ℕ
next_of view = option_map_or (λ (h : Header). h.next) (header_of view) 0

-- What stands at a place of a page: a pointer page's slot, a data page's cell, a page inventory's mark, a
-- transaction inventory page's state.
abbrev pub slot_in : Option Page → ℕ → Option ℕ
slot_in (Some (kind.Pointer p)) slot = slice_get p.slots slot
slot_in _ slot = None

abbrev pub cell_in : Option Page → ℕ → Option Cell
cell_in (Some (kind.Data d)) cell = slice_get d.cells cell
cell_in _ cell = None

abbrev pub mark_in : Option Page → ℕ → Option Bool
mark_in (Some (kind.Inventory i)) place = slice_get i.taken place
mark_in _ place = None

abbrev pub state_in : Option Page → ℕ → Option State
state_in (Some (kind.Tip t)) place = slice_get t.states place
state_in _ place = None

-- The cell at a place of a view.
abbrev pub cell_at : View → ℕ → ℕ → Option Cell
cell_at view page cell = cell_in (view page) cell

-- The page inventory of a sequence, if the header counts it.
abbrev pub inventory_of : View → ℕ → Option ℕ
inventory_of view sequence =
    option_and_then
    (λ (h : Header). if nat_lt sequence h.inventories then Some (inventory_page h.size sequence) else None)
    (header_of view)

-- The transaction inventory page of a sequence, if the header names it.
abbrev pub tip_of : View → ℕ → Option ℕ
tip_of view sequence = option_and_then (λ (h : Header). slice_get h.tips sequence) (header_of view)

-- The entry of a relation in the header.
abbrev pub relation_of : View → ℕ → Option Relation
relation_of view relation = option_and_then (λ (h : Header). slice_get h.relations relation) (header_of view)

-- The pointer page of a sequence, if the relation's entry names it.
abbrev pub pointer_of : View → ℕ → ℕ → Option ℕ
pointer_of view relation sequence = option_and_then (λ (r : Relation). slice_get r.pointers sequence) (relation_of view relation)

-- The data page of a sequence, if its slot in the relation's pointer pages names one: a slot of 0 names none.
abbrev pub unless_zero : ℕ → Option ℕ
unless_zero number = if number == 0 then None else Some number

abbrev pub named_in : Option Page → ℕ → Option ℕ
named_in pointer slot = option_and_then unless_zero (slot_in pointer slot)

abbrev pub data_of : View → ℕ → ℕ → Option ℕ
data_of view relation sequence =
    option_and_then
    (λ (pointer : ℕ). named_in (view pointer) (sequence % slots (size_of view)))
    (pointer_of view relation (sequence / slots (size_of view)))

-- A page is taken where the page inventory that covers it has its mark. Where that inventory is not counted, or is
-- not spelled, it is not taken.
abbrev pub is_marked : Option Bool → Bool
is_marked (Some true) = true
is_marked _ = false

abbrev pub is_taken : View → ℕ → Bool
is_taken view page =
    is_marked
    (option_and_then
    (λ (inventory : ℕ). mark_in (view inventory) (page % inventory_bits (size_of view)))
    (inventory_of view (page / inventory_bits (size_of view))))

-- What a cell holds: nothing, a row's newest version, or an older value.
abbrev pub is_empty : Flag → Bool
is_empty flag.Empty = true
is_empty _ = false

abbrev pub is_top : Flag → Bool
is_top flag.Primary = true
is_top flag.Deletion = true
is_top _ = false

abbrev pub is_back : Flag → Bool
is_back flag.Back = true
is_back _ = false

-- Whether a state is the active one, and whether it is the committed one.
abbrev pub is_active_state : State → Bool
is_active_state state.Active = true
is_active_state _ = false

abbrev pub is_committed_state : State → Bool
is_committed_state state.Committed = true
is_committed_state _ = false
