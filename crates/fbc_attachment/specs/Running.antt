-- What goes on at the desk of an attachment between two steps.
use Rattle.std.specs.Prelude.{None}
use Rattle.fbc_kinds.specs.declared.snapshots.Snapshot.{Snapshot}
use Rattle.fbc_desk.specs.Calls.{GoesOn}
use Rattle.fbc_desk.specs.Desk.{DeskState}
use Rattle.fbc_tra.specs.Goes.{begun}

-- The desk where no transaction is open any more.
abbrev pub ended : DeskState → DeskState
ended d = record d { own = None }

-- Calls of the desk, in which transactions begin and are over.
pub data Runs (from : DeskState) : DeskState → Type 0 where
  stays : Runs from from
  goes : (between after : DeskState) → Runs from between → GoesOn between after → Runs from after
  begins : (between : DeskState) (snapshot : Snapshot) → Runs from between → Runs from (begun snapshot between)
  ends : (between : DeskState) → Runs from between → Runs from (ended between)
