use Rattle.fbc_console.proofs.SayingLemmas.{front, front_cut}
use Rattle.fbc_console.proofs.playing.tell_front.Goals as goal

pub returns-in-Ok-clause-said : goal.returns-in-Ok-clause-said
returns-in-Ok-clause-said g c = front (g.K.Sink.may_have c.args.out.now) (g.K.Sink.may_have c.tell_opening.new.out) (g.K.Sink.may_have c.play_steps.new.out) c.args.steps.now c.play_steps.result c.in-Ok.ensures.said c.play_steps.ensures.said

pub returns-in-Err-clause-said : goal.returns-in-Err-clause-said
returns-in-Err-clause-said g c = front_cut (g.K.Sink.may_have c.args.out.now) (g.K.Sink.may_have c.tell_opening.new.out) c.args.steps.now c.in-Err.status c.in-Err.ensures.said
