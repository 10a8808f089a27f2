use Rattle.std.proofs.Common.{length, ◌-◌, ◌≤◌, take}
use Rattle.fbc_outside.specs.Streams.{SinkTakes}
use Rattle.fbc_outside.proofs.stream.write_all.Given as goal

abbrev pub invariant-loop-done : goal.invariant-loop-done
invariant-loop-done g l = record {
  within : l.done ≤ length l.text;
  taken : SinkTakes (g.K.Sink.may_have l.initial.out) (g.K.Sink.may_have l.out) (take l.done l.text);
  later : g.K.Sink.faults l.initial.out ≤ g.K.Sink.faults l.out;
}

abbrev pub decreases-loop-done : goal.decreases-loop-done
decreases-loop-done g l = length l.text - l.done
