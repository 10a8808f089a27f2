-- How a read goes on, and what it comes to.
use Rattle.std.specs.Prelude.{◌≡◌, ◌≢◌, ◌⊎◌, ℕ, Bool, true, false, None}
use Rattle.fbc_kinds.specs.declared.rules.Rule.{Rule}
use Rattle.fbc_kinds.specs.declared.rules.Rule.TheVariants as rule
use Rattle.fbc_kinds.specs.View.{is_top}
use Rattle.fbc_notes.specs.Sights.{TellsBelow, TellsSeen}
use Rattle.fbc_chains.specs.declared.parts.ReadPart.{ReadPart}
use Rattle.fbc_chains.specs.declared.parts.ReadPart.TheVariants as part
use Rattle.fbc_chains.specs.declared.parts.ReadStep.{ReadStep}
use Rattle.fbc_chains.specs.declared.parts.ReadStep.TheVariants as step
use Rattle.fbc_chains.specs.declared.places.RowPlace.{RowPlace}
use Rattle.fbc_chains.specs.declared.slots.SlotStep.TheVariants as slot
use Rattle.fbc_chains.specs.declared.walking.Down.{Down}
use Rattle.fbc_chains.specs.declared.walking.Down.TheVariants as down
use Rattle.fbc_chains.specs.Pages.{IsMissed, IsPast, IsThere, StandsAt, StandsElsewhere, data_due}
use Rattle.fbc_chains.specs.Showing.{Showing}
use Rattle.fbc_chains.specs.Slots.{LooksAtSlot, Names}
use Rattle.fbc_chains.specs.Versions.{LeadsOn, cell_below, is_older, page_below, version_at, version_below}

-- A row's newest version is not seen, and leads on.
pub record TopLeadsOn (seen : ℕ → Bool) (s : Showing) (page cell : ℕ) : Type 0 where
  pub top : is_top (version_at s page cell).flag ≡ true
  pub on : LeadsOn seen (version_at s page cell)

-- A read goes on: from the slot to the page that it names; from there back to the slot, where the page stands elsewhere than is due,
-- and to the row's own cell, where its version leads on; and from a version to the older one before it, where that leads on.
abbrev pub GoesTo : Showing → RowPlace → (ℕ → Bool) → ReadPart → ReadPart → Type 0
GoesTo s at seen part.Slot (part.Page page) = Names s at page × (page ≢ 0)
GoesTo s at seen (part.Page page) (part.Named named broken) = StandsElsewhere s page (data_due at) named broken
GoesTo s at seen (part.Page page) (part.Walk stood cell) =
    (stood ≡ page) × (cell ≡ at.cell) × StandsAt s page (data_due at) × TopLeadsOn seen s page cell
GoesTo s at seen (part.Walk page cell) (part.Walk below older) =
    (below ≡ page_below s page cell) × (older ≡ cell_below s page cell) × IsThere s below
    × (is_older s at.relation page cell ≡ true) × LeadsOn seen (version_at s below older)
GoesTo s at seen _ _ = ⊥

-- A read that goes on some times.
pub data LeadsTo (s : Showing) (at : RowPlace) (seen : ℕ → Bool) : ReadPart → ReadPart → Type 0 where
  stays : (part : ReadPart) → LeadsTo s at seen part part
  goes : (from between to : ReadPart) → LeadsTo s at seen from between → GoesTo s at seen between to → LeadsTo s at seen from to

-- What a read comes to at the slot: nothing is seen where it names no page.
abbrev pub SlotAnswers : Showing → RowPlace → ReadStep → Type 0
SlotAnswers s at (step.Done value) = (value ≡ None) × Names s at 0
SlotAnswers s at (step.Miss need) = LooksAtSlot s at (slot.Miss need)
SlotAnswers s at (step.Damaged page broken) = LooksAtSlot s at (slot.Damaged page broken)

-- The same at the data page: the row's own cell tells.
abbrev pub PageAnswers : Showing → RowPlace → (ℕ → Bool) → ℕ → ReadStep → Type 0
PageAnswers s at seen page (step.Done value) = StandsAt s page (data_due at) × TellsSeen seen (version_at s page at.cell) value
PageAnswers s at seen page (step.Miss need) = IsMissed s page need
PageAnswers s at seen page (step.Damaged damaged broken) = IsPast s page damaged broken

-- The slot names another page.
pub record NamesAnother (s : Showing) (at : RowPlace) (page : ℕ) : Type 0 where
  pub named : ℕ
  pub names : Names s at named
  pub other : named ≢ page

-- The same at the slot once more: the page that breaks the rule is damage where it is named still, else nothing is seen.
abbrev pub NameAnswers : Showing → RowPlace → ℕ → Rule → ReadStep → Type 0
NameAnswers s at page rule (step.Done value) = (value ≡ None) × NamesAnother s at page
NameAnswers s at page rule (step.Miss need) = LooksAtSlot s at (slot.Miss need)
NameAnswers s at page rule (step.Damaged damaged broken) =
    LooksAtSlot s at (slot.Damaged damaged broken) ⊎ (Names s at page × (damaged ≡ page) × (broken ≡ rule))

-- A version leads to none: the page below is there, and no older value of the relation stands in its cell.
pub record BreaksChain (s : Showing) (at : RowPlace) (page cell : ℕ) (damaged : ℕ) (broken : Rule) : Type 0 where
  pub there : IsThere s (page_below s page cell)
  pub none : is_older s at.relation page cell ≡ false
  pub is_page : damaged ≡ page
  pub is_rule : broken ≡ rule.Chain

-- The same at a version that leads on: the older one before it tells.
abbrev pub WalkAnswers : Showing → RowPlace → (ℕ → Bool) → ℕ → ℕ → ReadStep → Type 0
WalkAnswers s at seen page cell (step.Done value) =
    IsThere s (page_below s page cell) × (is_older s at.relation page cell ≡ true) × TellsBelow seen (version_below s page cell) value
WalkAnswers s at seen page cell (step.Miss need) = IsMissed s (page_below s page cell) need
WalkAnswers s at seen page cell (step.Damaged damaged broken) =
    IsPast s (page_below s page cell) damaged broken ⊎ BreaksChain s at page cell damaged broken

-- What a read comes to where it stands.
abbrev pub Answers : Showing → RowPlace → (ℕ → Bool) → ReadPart → ReadStep → Type 0
Answers s at seen part.Slot answer = SlotAnswers s at answer
Answers s at seen (part.Page page) answer = PageAnswers s at seen page answer
Answers s at seen (part.Named page broken) answer = NameAnswers s at page broken answer
Answers s at seen (part.Walk page cell) answer = WalkAnswers s at seen page cell answer

-- A read goes on from one part to another, and there it comes to its answer.
pub record ComesTo (s : Showing) (at : RowPlace) (seen : ℕ → Bool) (from to : ReadPart) (answer : ReadStep) : Type 0 where
  pub way : LeadsTo s at seen from to
  pub answers : Answers s at seen to answer

-- What one step down comes to: the read goes on to the version below, or has its answer.
abbrev pub StepsDown : Showing → RowPlace → (ℕ → Bool) → ℕ → ℕ → Down → Type 0
StepsDown s at seen page cell (down.To below older) = GoesTo s at seen (part.Walk page cell) (part.Walk below older)
StepsDown s at seen page cell (down.Answer answer) = Answers s at seen (part.Walk page cell) answer
