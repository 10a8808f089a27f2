-- When a view is sound.
use Rattle.std.specs.Prelude.{◌≡◌, ◌+◌, ◌*◌, ◌<◌, ℕ, true, false, Some}
use Rattle.fbc_kinds.specs.declared.pages.Cell.{Cell}
use Rattle.fbc_kinds.specs.declared.pages.State.{State}
use Rattle.fbc_kinds.specs.Limits.{tip_numbers}
use Rattle.fbc_kinds.specs.View.{View, size_of, next_of, cell_at, state_in, is_taken, is_empty, is_back, is_active_state, is_committed_state}
use Rattle.fbc_kinds.specs.Reach.{Role, DataRole, TipRole, Reaches, shows_role, LinksTo}
use Rattle.fbc_kinds.specs.Chain.{state_of}

-- A cell holds a back value of a relation, in a page that the view names for it, of a number below another.
pub record IsBackValue (view : View) (relation page cell number : ℕ) : Type 0 where
  pub sequence : ℕ
  pub back : Cell
  pub named : Reaches view (DataRole relation sequence) page
  pub stands : cell_at view page cell ≡ Some back
  pub is_value : is_back back.flag ≡ true
  pub smaller : back.number < number

pub record IsSound (view : View) : Type 0 where
  -- Every page that is reached is spelled, and has the kind, the relation and the sequence that its namer gives.
  pub fitting : (role : Role) (page : ℕ) → Reaches view role page → shows_role role page (view page) ≡ true
  -- Every page that is reached is taken.
  pub taken : (role : Role) (page : ℕ) → Reaches view role page → is_taken view page ≡ true
  -- Every page that is reached is reached once.
  pub once : (role other : Role) (page : ℕ) → Reaches view role page → Reaches view other page → role ≡ other
  -- Each back version is a back value of the relation in a named page, and has a smaller number than the version
  -- that names it.
  pub back : (relation page cell back_page back_cell : ℕ) (version : Cell)
      → LinksTo view relation page cell version back_page back_cell
      → IsBackValue view relation back_page back_cell version.number
  -- Each back version is reached once: two versions that name it are one.
  pub back_once : (relation page cell other_relation other_page other_cell back_page back_cell : ℕ) (version other : Cell)
      → LinksTo view relation page cell version back_page back_cell
      → LinksTo view other_relation other_page other_cell other back_page back_cell
      → (page ≡ other_page) × (cell ≡ other_cell)
  -- Every number in a data page that is reached is below the header's next.
  pub numbers : (relation sequence page cell : ℕ) (version : Cell)
      → Reaches view (DataRole relation sequence) page
      → cell_at view page cell ≡ Some version
      → is_empty version.flag ≡ false
      → version.number < next_of view
  -- Every state other than active is of a number below the header's next.
  pub states : (sequence page place : ℕ) (state : State)
      → Reaches view (TipRole sequence) page
      → state_in (view page) place ≡ Some state
      → is_active_state state ≡ false
      → sequence * tip_numbers (size_of view) + place < next_of view
  -- Below the top of a chain every version is committed.
  pub below : (relation page cell back_page back_cell : ℕ) (version back : Cell)
      → LinksTo view relation page cell version back_page back_cell
      → cell_at view back_page back_cell ≡ Some back
      → is_committed_state (state_of view back.number) ≡ true
