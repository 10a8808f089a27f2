use Rattle.std.proofs.Common.{subst}
use Rattle.fbc_console.specs.Committing.{IsCommitted}
use Rattle.fbc_console.proofs.SayingLemmas.{transaction, transaction_none}
use Rattle.fbc_console.proofs.playing.play.Goals as goal

pub returns-in-Err-clause-said : goal.returns-in-Err-clause-said
returns-in-Err-clause-said g c = transaction_none (g.K.Sink.may_have c.args.out.now) c.args.steps.now (g.D.Device.bytes c.args.device.now) (g.D.Device.bytes c.args.device.now)

pub returns-in-Ok-tell_front-clause-said : goal.returns-in-Ok-tell_front-clause-said
returns-in-Ok-tell_front-clause-said g c =
    transaction (g.K.Sink.may_have c.args.out.now) (g.K.Sink.may_have c.tell_front.new.out) (g.K.Sink.may_have c.commit.new.out) c.args.steps.now c.commit.result (g.D.Device.bytes c.args.device.now) (g.D.Device.bytes c.commit.new.device)
    c.in-Ok-tell_front.ensures.said c.commit.ensures.said
    (λ is. subst (IsCommitted (g.D.Device.bytes c.args.device.now) (g.D.Device.bytes c.commit.new.device)) c.in-Ok-tell_front.ensures.store (c.commit.ensures.cut is))
