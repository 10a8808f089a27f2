use Rattle.std.proofs.Common.{rules}
use Rattle.std.proofs.lemmas.List.{take_rest}
use Rattle.fbc_outside.proofs.SinkLemmas.{takes_more}
use Rattle.fbc_outside.proofs.stream.write_all.Goals as goal

pub loop-done-preserved : goal.loop-done-preserved
loop-done-preserved g c =
    let text = c.args.text.now in
    let i = c.loop-done.done in
    record {
      within = search rules;
      taken = takes_more (g.K.Sink.may_have c.args.out.now) (g.K.Sink.may_have c.loop-done.out) (g.K.Sink.may_have c.write.new.self) text i c.in_ok-count.count c.loop-done.invariant.taken (rw (take_rest text i) at c.in_ok-count.ensures.ok);
      later = search rules;
    }
