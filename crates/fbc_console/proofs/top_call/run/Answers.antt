use Rattle.fbc_console.proofs.EndingLemmas.{ended}
use Rattle.fbc_console.proofs.top_call.run.Goals as goal

pub returns-clause-ended : goal.returns-clause-ended
returns-clause-ended g c =
    ended (g.D.Device.reach c.args.device.now) c.args.words.now (g.S.Source.left c.args.script.now) (g.D.Device.bytes c.args.device.now) _ (g.K.Sink.may_have c.args.out.now) (g.K.Sink.may_have c.carry_out-outcome.new.out) (g.K.Sink.may_have c.end.new.out) c.carry_out-outcome.result c.end.result c.carry_out-outcome.ensures.done c.end.ensures.closed
