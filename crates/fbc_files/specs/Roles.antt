-- The pages that a header counts and names, in their roles.
use Rattle.std.specs.Prelude.{◌≡◌, ◌<◌, ℕ, true, Some, None, slice_get}
use Rattle.fbc_kinds.specs.declared.pages.Header.{Header}
use Rattle.fbc_kinds.specs.declared.pages.Page.TheVariants as kind
use Rattle.fbc_kinds.specs.declared.pages.Relation.{Relation}
use Rattle.fbc_kinds.specs.declared.pages.State.{State}
use Rattle.fbc_kinds.specs.Reach.{DataRole, HeaderRole, InventoryRole, PointerRole, Reaches, Role, TipRole, shows_role}
use Rattle.fbc_kinds.specs.View.{View, data_of, inventory_page, is_active_state, is_taken, state_in}

-- A page has a role in a view: what stands there has it, and the page is taken.
pub record HasRole (view : View) (role : Role) (page : ℕ) : Type 0 where
  pub shows : shows_role role page (view page) ≡ true
  pub taken : is_taken view page ≡ true

-- Page 0 is this header, and the pages that it counts and names have their roles.
pub record NamesFit (view : View) (header : Header) : Type 0 where
  pub stands : view 0 ≡ Some (kind.Header header)
  pub first : HasRole view HeaderRole 0
  pub inventories : (sequence : ℕ) → sequence < header.inventories → HasRole view (InventoryRole sequence) (inventory_page header.size sequence)
  pub tips : (sequence page : ℕ) → slice_get header.tips sequence ≡ Some page → HasRole view (TipRole sequence) page
  pub pointers : (number sequence page : ℕ) (relation : Relation) → slice_get header.relations number ≡ Some relation → slice_get relation.pointers sequence ≡ Some page → HasRole view (PointerRole number sequence) page

-- The data pages that are reached have their roles.
abbrev pub DataFits : View → Type 0
DataFits view = (relation sequence page : ℕ) → Reaches view (DataRole relation sequence) page → HasRole view (DataRole relation sequence) page

-- No page names a data page.
abbrev pub NamesNoData : View → Type 0
NamesNoData view = (relation sequence : ℕ) → data_of view relation sequence ≡ None

-- No state is other than active.
abbrev pub AreActive : View → Type 0
AreActive view = (page place : ℕ) (state : State) → state_in (view page) place ≡ Some state → is_active_state state ≡ true
