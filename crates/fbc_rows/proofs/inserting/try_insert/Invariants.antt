-- From stage to stage the insert goes on, each time to a later one.
use Rattle.std.proofs.Common.{◌-◌}
use Rattle.fbc_desk.specs.Calls.{GoesOn}
use Rattle.fbc_rows.specs.Parts.{rank}
use Rattle.fbc_rows.specs.Stages.{Leads}
use Rattle.fbc_rows.proofs.Onward.{StandsSo}
use Rattle.fbc_rows.proofs.inserting.try_insert.Given as goal

abbrev pub invariant-loop-part : goal.invariant-loop-part
invariant-loop-part l =
    Leads l.relation l.initial.place l.initial.desk l.initial.part l.desk l.part
    × GoesOn l.initial.desk l.desk
    × StandsSo l.initial.desk l.relation l.initial.part l.desk l.part

abbrev pub decreases-loop-part : goal.decreases-loop-part
decreases-loop-part l = 9 - rank l.part.stage
