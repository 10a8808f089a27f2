-- How an insert goes on from stage to stage, and what it comes to.
use Rattle.std.specs.Prelude.{◌≡◌, ℕ, List, Option, Some, None}
use Rattle.fbc_desk.specs.Desk.{DeskState}
use Rattle.fbc_chains.specs.Showing.{shown_by}
use Rattle.fbc_rows.specs.declared.parts.InsertPart.{InsertPart}
use Rattle.fbc_rows.specs.declared.parts.RowStep.{RowStep}
use Rattle.fbc_rows.specs.declared.parts.Stage.{Stage}
use Rattle.fbc_rows.specs.declared.parts.Stage.TheVariants as stage
use Rattle.fbc_rows.specs.Gathered.{FindComesTo, FreeComesTo, GetComesTo, HeaderComesTo, PointerComesTo, SlotsComeTo}
use Rattle.fbc_rows.specs.Making.{NamesPage, TakeComesTo, TakeWants}
use Rattle.fbc_rows.specs.Putting.{PutComesTo}
use Rattle.fbc_rows.specs.Searching.{CellComesTo}

-- Nothing is edited: what is shown stays.
abbrev pub IsUnedited : DeskState → DeskState → Type 0
IsUnedited before after = shown_by after.cache ≡ shown_by before.cache

-- A stage that always has an answer.
abbrev pub Always : (RowStep → Type 0) → Option RowStep → Type 0
Always Is None = ⊥
Always Is (Some answer) = Is answer

-- What it comes to at each stage before the last: none where it goes on to a later one. The pages of a new data page are gathered before
-- anything is edited.
abbrev pub StageComesTo : ℕ → ℕ → Stage → DeskState → InsertPart → DeskState → InsertPart → Option RowStep → Type 0
StageComesTo relation home (stage.Slots pointer) d from after to answer = IsUnedited d after × SlotsComeTo (shown_by d.cache) relation home pointer from to answer
StageComesTo relation home (stage.Header known) d from after to answer = IsUnedited d after × Always (HeaderComesTo (shown_by d.cache) relation known from to) answer
StageComesTo relation home (stage.Find sequence search) d from after to answer = IsUnedited d after × FindComesTo d sequence search from to answer
StageComesTo relation home (stage.Get new) d from after to answer = IsUnedited d after × GetComesTo d new from to answer
StageComesTo relation home (stage.Pointer new) d from after to answer = IsUnedited d after × PointerComesTo d relation new from to answer
StageComesTo relation home (stage.Free new) d from after to answer = IsUnedited d after × FreeComesTo d new from to answer
StageComesTo relation home (stage.Take new far) d from after to answer = TakeComesTo d after relation new far from to answer
StageComesTo relation home (stage.Name new) d from after to answer = NamesPage d after relation new from to answer
StageComesTo relation home (stage.Put page sequence cell) d from after to answer = ⊥
StageComesTo relation home _ d from after to answer = IsUnedited d after × CellComesTo (shown_by d.cache) relation home from to answer

-- It goes on so from stage to stage.
pub data Leads (relation home : ℕ) (before : DeskState) (from : InsertPart) : DeskState → InsertPart → Type 0 where
  stays : Leads relation home before from before from
  goes : (between after : DeskState) (at to : InsertPart) → Leads relation home before from between at
      → StageComesTo relation home at.stage between at after to None → Leads relation home before from after to

-- What it comes to at the last stage, where the row is put.
abbrev pub PutsAt : ℕ → ℕ → List ℕ → Stage → DeskState → DeskState → RowStep → Type 0
PutsAt relation number value (stage.Put page sequence cell) d after answer = PutComesTo d relation number value page sequence cell after answer
PutsAt relation number value _ d after answer = ⊥

abbrev pub Answers : ℕ → ℕ → ℕ → List ℕ → Stage → DeskState → InsertPart → DeskState → InsertPart → RowStep → Type 0
Answers relation home number value (stage.Put page sequence cell) d from after to answer =
    PutComesTo d relation number value page sequence cell after answer × (to ≡ from)
Answers relation home number value at d from after to answer = StageComesTo relation home at d from after to (Some answer)

-- It goes on to a stage, and there it comes to its answer.
pub record WayComesTo (relation home number : ℕ) (value : List ℕ) (before : DeskState) (from : InsertPart) (after : DeskState) (to : InsertPart) (answer : RowStep) : Type 0 where
  pub between : DeskState
  pub at : InsertPart
  pub way : Leads relation home before from between at
  pub answers : Answers relation home number value at.stage between at after to answer

-- Where there is no memory: the edits that were due before are made, and the part stands where the next one is due.
abbrev pub Wants : ℕ → Stage → DeskState → InsertPart → DeskState → InsertPart → Type 0
Wants relation (stage.Take new far) d from after to = TakeWants d after relation new far from to
Wants relation (stage.Name new) d from after to = (after ≡ d) × (to ≡ from)
Wants relation (stage.Put page sequence cell) d from after to = (after ≡ d) × (to ≡ from)
Wants relation _ d from after to = ⊥

pub record WayStops (relation home : ℕ) (before : DeskState) (from : InsertPart) (after : DeskState) (to : InsertPart) : Type 0 where
  pub between : DeskState
  pub at : InsertPart
  pub way : Leads relation home before from between at
  pub wants : Wants relation at.stage between at after to
