use Rattle.fbc_console.proofs.SayingLemmas.{opening}
use Rattle.fbc_console.proofs.playing.tell_opening.Goals as goal

pub returns-in-Ok-clause-said : goal.returns-in-Ok-clause-said
returns-in-Ok-clause-said g c = opening (g.K.Sink.may_have c.args.out.now) (g.K.Sink.may_have c.say.new.out) (g.K.Sink.may_have c.say-in-Ok.new.out) c.say-in-Ok.result c.in-Ok.ensures.said c.say-in-Ok.ensures.said
