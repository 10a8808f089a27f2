-- That the page where a read stands is in use.
use Rattle.std.specs.Prelude.{◌≡◌, ◌≢◌, ◌⊎◌, ℕ, false, true}
use Rattle.fbc_kinds.specs.View.{is_top}
use Rattle.fbc_cache.specs.Cache.{is_pinned_in}
use Rattle.fbc_desk.specs.Desk.{DeskState}
use Rattle.fbc_chains.specs.declared.parts.ReadPart.{ReadPart}
use Rattle.fbc_chains.specs.declared.parts.ReadPart.TheVariants as part
use Rattle.fbc_chains.specs.declared.parts.ReadStep.{ReadStep}
use Rattle.fbc_chains.specs.declared.parts.ReadStep.TheVariants as step
use Rattle.fbc_chains.specs.declared.places.RowPlace.{RowPlace}
use Rattle.fbc_chains.specs.declared.walking.Down.{Down}
use Rattle.fbc_chains.specs.declared.walking.Down.TheVariants as down
use Rattle.fbc_chains.specs.Showing.{Showing, shown_by}
use Rattle.fbc_chains.specs.Versions.{page_below, version_at}

abbrev pub IsUsed : DeskState → ℕ → Type 0
IsUsed d page = is_pinned_in d.cache.held page ≡ true

-- A read that stands at a version has its page in use.
abbrev pub Stands : DeskState → ReadPart → Type 0
Stands d (part.Walk page cell) = IsUsed d page
Stands d _ = Unit {0}

-- So it has still where it comes to no end.
abbrev pub StandsStill : DeskState → ReadPart → ReadStep → Type 0
StandsStill d part (step.Done value) = Unit {0}
StandsStill d part _ = Stands d part

-- A step down from a page in use: the page below is in use then, or the page itself still, where the read comes to no end.
abbrev pub StaysAbove : DeskState → DeskState → ℕ → ReadStep → Type 0
StaysAbove before after page (step.Done value) = Unit {0}
StaysAbove before after page _ = IsUsed before page → IsUsed after page

abbrev pub StandsDown : DeskState → DeskState → ℕ → Down → Type 0
StandsDown before after page (down.To below older) = IsUsed after below
StandsDown before after page (down.Answer answer) = StaysAbove before after page answer

-- The page of the version where a read stands.
abbrev pub IsStood : ReadPart → ℕ → Type 0
IsStood (part.Walk page cell) other = other ≡ page
IsStood _ other = ⊥

-- The pages that a read leaves in use: that where it stands; where the chain breaks, the page below besides; and the row's own page
-- where no newest version stands in its cell.
abbrev pub IsLeft : Showing → RowPlace → ReadPart → ReadStep → ℕ → Type 0
IsLeft s at (part.Walk page cell) (step.Miss need) other = other ≡ page
IsLeft s at (part.Walk page cell) (step.Damaged damaged broken) other = (other ≡ page) ⊎ (other ≡ page_below s page cell)
IsLeft s at (part.Page page) (step.Done value) other = (other ≡ page) × (is_top (version_at s page at.cell).flag ≡ false)
IsLeft s at _ _ other = ⊥

-- A page that is in use after a read was so before, and is not the one where the read stood; or the read leaves it so.
abbrev pub LeavesUsed : DeskState → RowPlace → ReadPart → DeskState → ReadPart → ReadStep → Type 0
LeavesUsed before at from after to answer =
    (other : ℕ) → IsUsed after other → (IsUsed before other × (¬ IsStood from other)) ⊎ IsLeft (shown_by before.cache) at to answer other

-- The same of a step down.
abbrev pub IsLeftBelow : Showing → ℕ → ℕ → Down → ℕ → Type 0
IsLeftBelow s page cell (down.To below older) other = other ≡ below
IsLeftBelow s page cell (down.Answer (step.Done value)) other = ⊥
IsLeftBelow s page cell (down.Answer (step.Miss need)) other = other ≡ page
IsLeftBelow s page cell (down.Answer (step.Damaged damaged broken)) other = (other ≡ page) ⊎ (other ≡ page_below s page cell)

abbrev pub LeavesAbove : DeskState → ℕ → ℕ → DeskState → Down → Type 0
LeavesAbove before page cell after answer =
    (other : ℕ) → IsUsed after other → (IsUsed before other × (other ≢ page)) ⊎ IsLeftBelow (shown_by before.cache) page cell answer other

-- The same where the page below is in use before.
abbrev pub LeavesBoth : DeskState → ℕ → ℕ → DeskState → Down → Type 0
LeavesBoth before page cell after answer =
    (other : ℕ) → IsUsed after other
    → (IsUsed before other × (other ≢ page) × (other ≢ page_below (shown_by before.cache) page cell)) ⊎ IsLeftBelow (shown_by before.cache) page cell answer other
