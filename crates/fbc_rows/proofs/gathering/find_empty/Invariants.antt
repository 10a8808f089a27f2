-- The pointer pages so far are full, by the copies at hand.
use Rattle.std.proofs.Common.{◌≡◌, ◌-◌}
use Rattle.fbc_desk.specs.Calls.{GoesOn}
use Rattle.fbc_chains.specs.Showing.{shown_by}
use Rattle.fbc_rows.specs.Gathering.{AreFull}
use Rattle.fbc_rows.proofs.gathering.find_empty.Given as goal

abbrev pub invariant-loop-pointer : goal.invariant-loop-pointer
invariant-loop-pointer l =
    AreFull (shown_by l.initial.desk.cache) l.relation l.initial.pointer l.pointer
    × (shown_by l.desk.cache ≡ shown_by l.initial.desk.cache) × GoesOn l.initial.desk l.desk

abbrev pub decreases-loop-pointer : goal.decreases-loop-pointer
decreases-loop-pointer l = l.known - l.pointer
