-- One step of the search for a free page.
use Rattle.std.specs.Prelude.{◌≡◌, ◌+◌, ℕ, Bool, true, false, List, Option, Some, None}
use Rattle.fbc_desk.specs.Desk.{DeskState}
use Rattle.fbc_space.specs.declared.finding.Found.{Found}
use Rattle.fbc_space.specs.declared.finding.FreeSearch.{FreeSearch}
use Rattle.fbc_space.specs.Finding.{HeaderStops, InventoryStops, IsCounted, IsFull, is_header_due}

-- Where the header is looked at, the search is stopped, or goes on to the page inventory that the header counts.
abbrev pub StepsPastHeader : DeskState → FreeSearch → FreeSearch → Option Found → Type 0
StepsPastHeader d from to (Some found) = (to ≡ from) × HeaderStops d from.sequence found
StepsPastHeader d from to None = (to ≡ record { sequence = from.sequence; is_counted = true }) × IsCounted d from.sequence

-- Where a page inventory is looked at, it is stopped, or goes on to the next one.
abbrev pub StepsPastInventory : DeskState → ℕ → List ℕ → FreeSearch → FreeSearch → Option Found → Type 0
StepsPastInventory d limit passed from to (Some found) = (to ≡ from) × InventoryStops d limit passed from.sequence found
StepsPastInventory d limit passed from to None = (to ≡ record { sequence = from.sequence + 1; is_counted = false }) × IsFull d limit from.sequence

-- Which of the two it is.
abbrev pub StepsBy : Bool → DeskState → ℕ → List ℕ → FreeSearch → FreeSearch → Option Found → Type 0
StepsBy true d limit passed from to found = StepsPastHeader d from to found
StepsBy false d limit passed from to found = StepsPastInventory d limit passed from to found

abbrev pub Steps : DeskState → ℕ → List ℕ → FreeSearch → FreeSearch → Option Found → Type 0
Steps d limit passed from to found = StepsBy (is_header_due from) d limit passed from to found
