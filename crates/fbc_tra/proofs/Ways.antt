-- How the ways and the answers of a body are put together.
use Rattle.std.proofs.Common.{Result, Ok, Err, IfOk, OnErr}
use Rattle.fbc_desk.specs.Desk.{DeskState}
use Rattle.fbc_tra.specs.declared.steps.BodyStep.{BodyStep}
use Rattle.fbc_tra.specs.Ways.{ComesTo, Leads, Stops}

module _ {Stage : Type 0} {Moves : DeskState → Stage → DeskState → Stage → Type 0} {Answers : DeskState → Stage → DeskState → Stage → BodyStep → Type 0} where
  -- An answer where the body stands.
  pub comes-here : (d after : DeskState) (at to : Stage) (answer : BodyStep) → Answers d at after to answer → ComesTo Moves Answers d at after to answer
  comes-here d after at to answer is = record { between = d; at = at; way = Leads.stays d at; answers = is }

  -- A body goes on, and comes to its answer from there.
  pub comes-on : (d between after : DeskState) (from at to : Stage) (answer : BodyStep) → Moves d from between at → ComesTo Moves Answers between at after to answer → ComesTo Moves Answers d from after to answer
  comes-on d between after from at to answer move comes =
      record { between = comes.between; at = comes.at; way = Leads.goes d between comes.between from at comes.at move comes.way; answers = comes.answers }

-- The same of an answer for which there is memory.
module _ {Stage : Type 0} (Moves : DeskState → Stage → DeskState → Stage → Type 0) (Answers : DeskState → Stage → DeskState → Stage → BodyStep → Type 0) where
  pub here-ok : {E : Type 0} (d after : DeskState) (at to : Stage) (result : Result BodyStep E) → IfOk result (Answers d at after to) → IfOk result (ComesTo Moves Answers d at after to)
  here-ok d after at to (Ok answer) is = comes-here d after at to answer is
  here-ok d after at to (Err error) is = is

  pub on-ok : {E : Type 0} (d between after : DeskState) (from at to : Stage) (result : Result BodyStep E) → Moves d from between at → IfOk result (ComesTo Moves Answers between at after to) → IfOk result (ComesTo Moves Answers d from after to)
  on-ok d between after from at to (Ok answer) move comes = comes-on d between after from at to answer move comes
  on-ok d between after from at to (Err error) move comes = comes

-- Where there is no memory.
module _ {Stage : Type 0} (Moves Wants : DeskState → Stage → DeskState → Stage → Type 0) where
  pub stops-here : (d after : DeskState) (at to : Stage) → Wants d at after to → Stops Moves Wants d at after to
  stops-here d after at to is = record { between = d; at = at; way = Leads.stays d at; wants = is }

  pub stops-here-err : {T E : Type 0} (d after : DeskState) (at to : Stage) (result : Result T E) → OnErr result (Wants d at after to) → OnErr result (Stops Moves Wants d at after to)
  stops-here-err d after at to (Ok answer) is = is
  stops-here-err d after at to (Err error) is = stops-here d after at to is

  pub stops-on : {T E : Type 0} (d between after : DeskState) (from at to : Stage) (result : Result T E) → Moves d from between at → OnErr result (Stops Moves Wants between at after to) → OnErr result (Stops Moves Wants d from after to)
  stops-on d between after from at to (Ok answer) move stops = stops
  stops-on d between after from at to (Err error) move stops =
      record { between = stops.between; at = stops.at; way = Leads.goes d between stops.between from at stops.at move stops.way; wants = stops.wants }

-- What holds, holds of an answer for which there is no memory.
pub any-err : {T E : Type 0} {P : Type 0} (result : Result T E) → P → OnErr result P
any-err (Ok answer) is = tt
any-err (Err error) is = is
