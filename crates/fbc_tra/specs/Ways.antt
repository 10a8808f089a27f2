-- How a body goes on from stage to stage, and what it comes to.
use Rattle.fbc_desk.specs.Desk.{DeskState}
use Rattle.fbc_tra.specs.declared.steps.BodyStep.{BodyStep}

-- A body that goes on some times, each time by a move from one stage to another, which may change the desk.
pub data Leads {Stage : Type 0} (Moves : DeskState → Stage → DeskState → Stage → Type 0) : DeskState → Stage → DeskState → Stage → Type 0 where
  stays : (d : DeskState) (at : Stage) → Leads Moves d at d at
  goes : (d between after : DeskState) (from at to : Stage) → Moves d from between at → Leads Moves between at after to → Leads Moves d from after to

-- A body goes on to a stage, and there it comes to its answer, which may change the desk and the stage once more.
pub record ComesTo {Stage : Type 0} (Moves : DeskState → Stage → DeskState → Stage → Type 0)
    (Answers : DeskState → Stage → DeskState → Stage → BodyStep → Type 0) (before : DeskState) (from : Stage)
    (after : DeskState) (to : Stage) (answer : BodyStep) : Type 0 where
  pub between : DeskState
  pub at : Stage
  pub way : Leads Moves before from between at
  pub answers : Answers between at after to answer

-- A body goes on to a stage, and there it has no memory for its answer.
pub record Stops {Stage : Type 0} (Moves Wants : DeskState → Stage → DeskState → Stage → Type 0) (before : DeskState) (from : Stage)
    (after : DeskState) (to : Stage) : Type 0 where
  pub between : DeskState
  pub at : Stage
  pub way : Leads Moves before from between at
  pub wants : Wants between at after to
