-- What a header, inventories and pointer pages name, and which pages and cells are so reached.
use Rattle.std.specs.Prelude.{◌≡◌, ◌==◌, ◌&&◌, ℕ, Bool, true, false, Option, Some, None}
use Rattle.fbc_kinds.specs.declared.pages.Page.{Page}
use Rattle.fbc_kinds.specs.declared.pages.Page.TheVariants as kind
use Rattle.fbc_kinds.specs.declared.pages.Cell.{Cell}
use Rattle.fbc_kinds.specs.View.{View, inventory_of, tip_of, pointer_of, data_of, cell_at, is_top}

-- A role that a page can have in a file: the header, or the page of a kind, a relation and a sequence.
pub data Role : Type 0 where
  HeaderRole : Role
  InventoryRole : (sequence : ℕ) → Role
  TipRole : (sequence : ℕ) → Role
  PointerRole : (relation sequence : ℕ) → Role
  DataRole : (relation sequence : ℕ) → Role

-- Page 0 is the header. The header counts the page inventories, and names the transaction inventory pages and the
-- pointer pages. The pointer pages name the data pages.
abbrev pub page_for : View → Role → Option ℕ
page_for view HeaderRole = Some 0
page_for view (InventoryRole sequence) = inventory_of view sequence
page_for view (TipRole sequence) = tip_of view sequence
page_for view (PointerRole relation sequence) = pointer_of view relation sequence
page_for view (DataRole relation sequence) = data_of view relation sequence

-- A page is reached in a role where the view names it for that.
abbrev pub Reaches : View → Role → ℕ → Type 0
Reaches view role page = page_for view role ≡ Some page

abbrev pub ReachesPage : View → ℕ → Type 0
ReachesPage view page = (role : Role) × Reaches view role page

-- A page has a role where it has that kind, its own number, and the relation and sequence of the role.
abbrev pub has_role : Role → ℕ → Page → Bool
has_role HeaderRole number (kind.Header h) = number == 0
has_role (InventoryRole sequence) number (kind.Inventory i) = (i.page == number) && (i.sequence == sequence)
has_role (TipRole sequence) number (kind.Tip t) = (t.page == number) && (t.sequence == sequence)
has_role (PointerRole relation sequence) number (kind.Pointer p) = (p.page == number) && (p.relation == relation) && (p.sequence == sequence)
has_role (DataRole relation sequence) number (kind.Data d) = (d.page == number) && (d.relation == relation) && (d.sequence == sequence)
has_role _ number _ = false

-- Whether the page that stands there, if bytes spell one, has a role.
abbrev pub shows_role : Role → ℕ → Option Page → Bool
shows_role role number None = false
shows_role role number (Some page) = has_role role number page

-- A version names the cell of its back version unless its back page is 0.
pub record NamesBack (version : Cell) (page cell : ℕ) : Type 0 where
  pub some : (version.back_page == 0) ≡ false
  pub page_is : version.back_page ≡ page
  pub cell_is : version.back_cell ≡ cell

-- In a relation the primary and deletion cells of its data pages are reached, and the back cells along their chains.
pub data ReachesCell (view : View) (relation : ℕ) : ℕ → ℕ → Type 0 where
  top : (sequence page cell : ℕ) (version : Cell)
      → Reaches view (DataRole relation sequence) page
      → cell_at view page cell ≡ Some version
      → is_top version.flag ≡ true
      → ReachesCell view relation page cell
  along : (page cell back_page back_cell : ℕ) (version : Cell)
      → ReachesCell view relation page cell
      → cell_at view page cell ≡ Some version
      → NamesBack version back_page back_cell
      → ReachesCell view relation back_page back_cell

-- A version that is reached stands in a cell, and names another cell as its back version's.
pub record LinksTo (view : View) (relation page cell : ℕ) (version : Cell) (back_page back_cell : ℕ) : Type 0 where
  pub reached : ReachesCell view relation page cell
  pub stands : cell_at view page cell ≡ Some version
  pub names : NamesBack version back_page back_cell
