use Rattle.std.specs.Prelude.{◌≡◌, ◌<◌, ◌≤◌, ◌+◌, ◌*◌, ◌^◌, ◌++◌, ◌/◌, ◌%◌, ◌==◌, ◌&&◌, ◌||◌, ℕ, Bool, true, false, not, nat_lt, nat_le, if◌then◌else◌, List, [], ◌∷◌, Option, Some, None, length, option_and_then, replicate, slice_get, slice_index, slice_set}
use Rattle.fbc_kinds.specs.declared.edits.Edit.{Edit}
use Rattle.fbc_kinds.specs.declared.edits.Edit.TheVariants.{SetNext, AddTip, AddPointer, AddInventory, TakePage, FreePage, Mark, Name, Unname, PutCell, ClearCell, Format}
use Rattle.fbc_kinds.specs.declared.pages.Cell.{Cell}
use Rattle.fbc_kinds.specs.declared.pages.Flag.{Flag}
use Rattle.fbc_kinds.specs.declared.pages.Flag.TheVariants as flag
use Rattle.fbc_kinds.specs.declared.pages.Header.{Header}
use Rattle.fbc_kinds.specs.declared.pages.Inventory.{Inventory}
use Rattle.fbc_kinds.specs.declared.pages.Page.{Page}
use Rattle.fbc_kinds.specs.declared.pages.Page.TheVariants as page
use Rattle.fbc_kinds.specs.declared.pages.Relation.{Relation}
use Rattle.fbc_kinds.specs.declared.pages.State.{State}
use Rattle.fbc_kinds.specs.declared.pages.State.TheVariants.{Active, Limbo, Dead, Committed}
use Rattle.fbc_kinds.specs.declared.pages.Tip.{Tip}
use Rattle.fbc_kinds.specs.declared.shapes.Shape.{Shape}
use Rattle.fbc_kinds.specs.Limits.{IsPageSize, cells, inventory_bits, inventory_limit, number_limit, pointer_limit, relation_limit, slots, tip_limit, tip_numbers, transaction_limit}
use Rattle.fbc_kinds.specs.HeaderSpelling.{IsHeader}
use Rattle.fbc_kinds.specs.InventorySpelling.{IsInventory}
use Rattle.fbc_kinds.specs.TipSpelling.{IsTip}
use Rattle.fbc_kinds.specs.PointerSpelling.{IsPointer}
use Rattle.fbc_kinds.specs.DataSpelling.{IsData, empty_cell}

-- The greatest length of a value of a relation; 0 where the shape does not have the relation.
abbrev pub value_length : Shape → ℕ → ℕ
value_length shape relation = if nat_lt relation shape.count then slice_index shape.lengths relation else 0

-- A shape that a file may have.
pub record IsShape (shape : Shape) : Type 0 where
  pub size : IsPageSize shape.size
  pub count : shape.count ≤ relation_limit

-- A page within its limits in a file of this shape.
abbrev pub IsWithinLimits : Shape → Page → Type 0
IsWithinLimits shape (page.Header header) = IsHeader shape.size header
IsWithinLimits shape (page.Inventory inventory) = IsInventory shape.size inventory
IsWithinLimits shape (page.Tip tip) = IsTip shape.size tip
IsWithinLimits shape (page.Pointer pointer) = IsPointer shape.size pointer
IsWithinLimits shape (page.Data data_page) = IsData shape.size (value_length shape data_page.relation) data_page
IsWithinLimits shape page.Blank = Unit {0}

-- The page after an edit that fits where the test passes.
abbrev pub given : Bool → Page → Option Page
given true after = Some after
given false after = None

-- The next number is one that a transaction may get, and stands in a transaction inventory page or just behind the last.
abbrev pub is_next : ℕ → ℕ → ℕ → Bool
is_next size tips next = nat_le 1 next && nat_le next (transaction_limit size) && nat_le next (tip_numbers size * tips)

-- The page whose next number is this one.
abbrev pub next_set : Shape → ℕ → Page → Option Page
next_set shape next (page.Header header) = given (is_next shape.size (length header.tips) next) (page.Header (record header { next = next }))
next_set shape next _ = None

-- There is room for one more number of a page, which is not the header.
abbrev pub takes_page : ℕ → List ℕ → ℕ → Bool
takes_page limit pages number = not (number == 0) && nat_lt (length pages) limit

-- The page with one more transaction inventory page.
abbrev pub tip_added : ℕ → Page → Option Page
tip_added number (page.Header header) = given (takes_page tip_limit header.tips number) (page.Header (record header { tips = header.tips ++ number ∷ [] }))
tip_added number _ = None

-- A relation with one more pointer page.
abbrev pub pointed : Relation → ℕ → Option Relation
pointed entry number = if takes_page pointer_limit entry.pointers number then Some (record entry { pointers = entry.pointers ++ number ∷ [] }) else None

-- A header with this entry in the place of a relation's.
abbrev pub with_entry : ℕ → Header → Option Relation → Option Page
with_entry relation header (Some entry) = Some (page.Header (record header { relations = slice_set header.relations relation entry }))
with_entry relation header None = None

-- The page with one more pointer page of a relation that it has.
abbrev pub pointer_added : ℕ → ℕ → Page → Option Page
pointer_added relation number (page.Header header) = with_entry relation header (option_and_then (λ entry. pointed entry number) (slice_get header.relations relation))
pointer_added relation number _ = None

-- The page that counts one more page inventory page.
abbrev pub inventory_added : Page → Option Page
inventory_added (page.Header header) = given (nat_lt header.inventories inventory_limit) (page.Header (record header { inventories = header.inventories + 1 }))
inventory_added _ = None

-- A page inventory covers a page.
abbrev pub covers : ℕ → ℕ → ℕ → Bool
covers size sequence number = number / inventory_bits size == sequence

-- A page inventory with one mark changed.
abbrev pub with_mark : ℕ → ℕ → Bool → Inventory → Inventory
with_mark size number taken inventory = record inventory { taken = slice_set inventory.taken (number % inventory_bits size) taken }

-- The page that shows a page as taken.
abbrev pub page_taken : Shape → ℕ → Page → Option Page
page_taken shape number (page.Inventory inventory) = given (covers shape.size inventory.sequence number) (page.Inventory (with_mark shape.size number true inventory))
page_taken shape number _ = None

-- The page that shows a page as free; neither the header nor the page inventory itself is ever free.
abbrev pub page_freed : Shape → ℕ → Page → Option Page
page_freed shape number (page.Inventory inventory) =
    given (covers shape.size inventory.sequence number && not (number == 0) && not (number == inventory.page)) (page.Inventory (with_mark shape.size number false inventory))
page_freed shape number _ = None

-- A transaction number stands in a transaction inventory page.
abbrev pub stands_in : ℕ → ℕ → ℕ → Bool
stands_in size sequence number = number / tip_numbers size == sequence

-- Number 0 stays active, and no transaction is in limbo.
abbrev pub may_be : ℕ → State → Bool
may_be number Active = true
may_be number Limbo = false
may_be number Dead = not (number == 0)
may_be number Committed = not (number == 0)

-- A transaction inventory page with one state changed.
abbrev pub with_state : ℕ → ℕ → State → Tip → Tip
with_state size number state tip = record tip { states = slice_set tip.states (number % tip_numbers size) state }

-- The page that shows a transaction number in a state.
abbrev pub state_marked : Shape → ℕ → State → Page → Option Page
state_marked shape number state (page.Tip tip) =
    given (stands_in shape.size tip.sequence number && may_be number state) (page.Tip (with_state shape.size number state tip))
state_marked shape number state _ = None

-- The page with this number in a slot that it has.
abbrev pub slot_named : ℕ → ℕ → Page → Option Page
slot_named slot number (page.Pointer pointer) = given (nat_lt slot (length pointer.slots)) (page.Pointer (record pointer { slots = slice_set pointer.slots slot number }))
slot_named slot number _ = None

-- Whether a value suits a version with this flag.
abbrev pub suits : Flag → ℕ → ℕ → Bool
suits flag.Empty greatest size = false
suits flag.Primary greatest size = nat_le 1 size && nat_le size greatest
suits flag.Deletion greatest size = size == 0
suits flag.Back greatest size = nat_le 1 size && nat_le size greatest

-- A cell that holds a version and is within its limits, for values of at most `greatest` bytes.
abbrev pub is_version : ℕ → Cell → Bool
is_version greatest content =
    suits content.flag greatest (length content.value) && not (content.number == 0) && (not (content.back_page == 0) || content.back_cell == 0)

-- The page with this version in a cell that it has.
abbrev pub cell_put : Shape → ℕ → Cell → Page → Option Page
cell_put shape cell content (page.Data data_page) =
    given (nat_lt cell (length data_page.cells) && is_version (value_length shape data_page.relation) content) (page.Data (record data_page { cells = slice_set data_page.cells cell content }))
cell_put shape cell content _ = None

-- The page with nothing in a cell that it has.
abbrev pub cell_cleared : ℕ → Page → Option Page
cell_cleared cell (page.Data data_page) = given (nat_lt cell (length data_page.cells)) (page.Data (record data_page { cells = slice_set data_page.cells cell empty_cell }))
cell_cleared cell _ = None

-- The marks of a page inventory that shows only itself as taken, where it covers itself.
abbrev pub own_marks : ℕ → ℕ → ℕ → List Bool
own_marks size number sequence =
    if covers size sequence number then slice_set (replicate (inventory_bits size) false) (number % inventory_bits size) true else replicate (inventory_bits size) false

-- An empty page inventory; the first one would show the header as free, if it were not the header's own page.
abbrev pub inventory_formatted : ℕ → ℕ → ℕ → Option Page
inventory_formatted size number sequence =
    given (not (sequence == 0) || number == 0) (page.Inventory (record { page = number; sequence = sequence; taken = own_marks size number sequence }))

-- An empty transaction inventory page: every number is active.
abbrev pub tip_formatted : ℕ → ℕ → ℕ → Option Page
tip_formatted size number sequence = Some (page.Tip (record { page = number; sequence = sequence; states = replicate (tip_numbers size) Active }))

-- An empty pointer page of a relation that the shape has: no slot names a page.
abbrev pub pointer_formatted : Shape → ℕ → ℕ → ℕ → Option Page
pointer_formatted shape number relation sequence =
    given (nat_lt relation shape.count) (page.Pointer (record { page = number; relation = relation; sequence = sequence; slots = replicate (slots shape.size) 0 }))

-- An empty data page of a relation that the shape has: no cell holds a version.
abbrev pub data_formatted : Shape → ℕ → ℕ → ℕ → Option Page
data_formatted shape number relation sequence =
    given (nat_lt relation shape.count)
    (page.Data (record { page = number; relation = relation; sequence = sequence; cells = replicate (cells shape.size (value_length shape relation)) empty_cell }))

-- The empty page of a kind.
abbrev pub formatted : Shape → ℕ → ℕ → ℕ → ℕ → Option Page
formatted shape kind number relation sequence =
    if kind == 2 then inventory_formatted shape.size number sequence
    else if kind == 3 then tip_formatted shape.size number sequence
    else if kind == 4 then pointer_formatted shape number relation sequence
    else if kind == 5 then data_formatted shape number relation sequence
    else None

-- The page after an edit; none where the edit does not fit the page.
abbrev pub applied : Shape → Edit → Page → Option Page
applied shape (SetNext next) before = next_set shape next before
applied shape (AddTip number) before = tip_added number before
applied shape (AddPointer relation number) before = pointer_added relation number before
applied shape AddInventory before = inventory_added before
applied shape (TakePage number) before = page_taken shape number before
applied shape (FreePage number) before = page_freed shape number before
applied shape (Mark number state) before = state_marked shape number state before
applied shape (Name slot number) before = slot_named slot number before
applied shape (Unname slot) before = slot_named slot 0 before
applied shape (PutCell cell content) before = cell_put shape cell content before
applied shape (ClearCell cell) before = cell_cleared cell before
applied shape (Format kind number relation sequence) before = formatted shape kind number relation sequence

-- The numbers of a cell are such as its bytes hold.
pub record HasCellNumbers (content : Cell) : Type 0 where
  pub number_fits : content.number < number_limit
  pub back_page_fits : content.back_page < number_limit
  pub back_cell_fits : content.back_cell < 2 ^ 16

-- The numbers that an edit puts into a page are such as its bytes hold.
abbrev pub IsEdit : Edit → Type 0
IsEdit (AddTip number) = number < number_limit
IsEdit (AddPointer relation number) = number < number_limit
IsEdit (Name slot number) = number < number_limit
IsEdit (PutCell cell content) = HasCellNumbers content
IsEdit (Format kind number relation sequence) = (number < number_limit) × (sequence < number_limit)
IsEdit _ = Unit {0}

-- What an attempt at an edit leaves.
abbrev pub Tried : Bool → Option Page → Page → Page → Type 0
Tried true after old new = after ≡ Some new
Tried false after old new = (after ≡ None) × (new ≡ old)
