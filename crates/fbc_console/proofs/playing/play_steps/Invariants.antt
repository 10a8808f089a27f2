use Rattle.std.proofs.Common.{◌≡◌, ◌≤◌, take}
use Rattle.std.specs.Prelude.{reverse}
use Rattle.fbc_outside.specs.Streams.{SinkTakes}
use Rattle.fbc_console.specs.Transaction.{inserted, step_lines}
use Rattle.fbc_console.proofs.playing.play_steps.Given as goal

abbrev pub invariant-loop-at : goal.invariant-loop-at
invariant-loop-at g l =
    (l.store ≡ inserted (reverse (take l.at l.steps)))
    × (SinkTakes (g.K.Sink.may_have l.initial.out) (g.K.Sink.may_have l.out) (step_lines (reverse (take l.at l.steps))))
    × (g.K.Sink.faults l.initial.out ≤ g.K.Sink.faults l.out)
