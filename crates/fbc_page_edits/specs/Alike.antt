-- What two views have in common: the one before an edit, and the one after it.
use Rattle.std.specs.Prelude.{◌≡◌, ◌⊎◌, ◌++◌, ℕ, List, [], ◌∷◌}
use Rattle.fbc_kinds.specs.declared.pages.Cell.{Cell}
use Rattle.fbc_kinds.specs.Chain.{Version, chain, state_of}
use Rattle.fbc_kinds.specs.Lost.{IsLostCell, IsLostPage}
use Rattle.fbc_kinds.specs.Reach.{LinksTo, ReachesPage}
use Rattle.fbc_kinds.specs.View.{View}
use Rattle.fbc_page_edits.specs.Facing.{IsRowAt}

-- All chains are the same.
abbrev pub HaveSameChains : View → View → Type 0
HaveSameChains before after = (relation row : ℕ) → chain after relation row ≡ chain before relation row

-- All numbers are in the same states.
abbrev pub HaveSameStates : View → View → Type 0
HaveSameStates before after = (number : ℕ) → state_of after number ≡ state_of before number

-- All chains are the same but that of a row whose top stands in this cell.
abbrev pub HaveOtherChains : ℕ → ℕ → View → View → Type 0
HaveOtherChains page cell before after = (relation row : ℕ) → ¬ IsRowAt before relation row page cell → chain after relation row ≡ chain before relation row

-- The later view reaches no page that the earlier one does not, this one apart.
abbrev pub ReachesNoPageBut : ℕ → View → View → Type 0
ReachesNoPageBut new before after = (page : ℕ) → ReachesPage after page → ReachesPage before page ⊎ (page ≡ new)

abbrev pub ReachesNoMorePages : View → View → Type 0
ReachesNoMorePages before after = (page : ℕ) → ReachesPage after page → ReachesPage before page

-- The later view has no link that the earlier one has not.
abbrev pub HasNoMoreLinks : View → View → Type 0
HasNoMoreLinks before after = (relation page cell back_page back_cell : ℕ) (version : Cell)
    → LinksTo after relation page cell version back_page back_cell → LinksTo before relation page cell version back_page back_cell

-- Pages that are lost stay lost, this one apart.
abbrev pub KeepsLostPagesBut : ℕ → View → View → Type 0
KeepsLostPagesBut found before after = (page : ℕ) → ¬ (page ≡ found) → IsLostPage before page → IsLostPage after page

abbrev pub KeepsLostPages : View → View → Type 0
KeepsLostPages before after = (page : ℕ) → IsLostPage before page → IsLostPage after page

-- Cells that are lost stay lost.
abbrev pub KeepsLostCells : View → View → Type 0
KeepsLostCells before after = (page cell : ℕ) → IsLostCell before page cell → IsLostCell after page cell

-- A chain is cut: what is below this version is gone.
pub record IsCutBelow (version : Version) (before after : List Version) : Type 0 where
  pub newer : List Version
  pub older : List Version
  pub whole : before ≡ newer ++ version ∷ older
  pub left : after ≡ newer ++ version ∷ []

-- The later view reads as the earlier one: it has the same chains and states, no new links, and the cells that were lost are
-- lost.
pub record ReadAlike (before after : View) : Type 0 where
  pub chains : HaveSameChains before after
  pub states : HaveSameStates before after
  pub links : HasNoMoreLinks before after
  pub cells : KeepsLostCells before after
