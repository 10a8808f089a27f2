-- Lost space: what is taken and not reached.
use Rattle.std.specs.Prelude.{◌≡◌, ◌<◌, ◌⊎◌, ◌↔◌, ℕ, List, Some, true, false, Contains, AllPairs}
use Rattle.std.specs.List.Sorted.{IsStrictlyIncreasing}
use Rattle.fbc_kinds.specs.declared.pages.Cell.{Cell}
use Rattle.fbc_kinds.specs.View.{View, cell_at, is_taken, is_empty}
use Rattle.fbc_kinds.specs.Reach.{DataRole, Reaches, ReachesPage, ReachesCell}

-- A page is lost where it is taken and not reached.
pub record IsLostPage (view : View) (page : ℕ) : Type 0 where
  pub taken : is_taken view page ≡ true
  pub unreached : ¬ ReachesPage view page

-- A cell is lost where it holds a version in a data page that is reached, and is not reached itself.
pub record IsLostCell (view : View) (page cell : ℕ) : Type 0 where
  pub relation : ℕ
  pub sequence : ℕ
  pub version : Cell
  pub reached : Reaches view (DataRole relation sequence) page
  pub stands : cell_at view page cell ≡ Some version
  pub holds : is_empty version.flag ≡ false
  pub unreached : (any : ℕ) → ¬ ReachesCell view any page cell

-- A cell comes before another by its page, and in one page by its place.
abbrev pub ComesBefore : ℕ × ℕ → ℕ × ℕ → Type 0
ComesBefore a b = (a.0 < b.0) ⊎ ((a.0 ≡ b.0) × (a.1 < b.1))

-- The lost space of a view: the lost pages and the lost cells, each once, in rising order.
pub record IsLostSpace (view : View) (lost_pages : List ℕ) (lost_cells : List (ℕ × ℕ)) : Type 0 where
  pub pages : (page : ℕ) → Contains lost_pages page ↔ IsLostPage view page
  pub pages_rise : IsStrictlyIncreasing lost_pages
  pub cells : (page cell : ℕ) → Contains lost_cells (page, cell) ↔ IsLostCell view page cell
  pub cells_rise : AllPairs ComesBefore lost_cells
