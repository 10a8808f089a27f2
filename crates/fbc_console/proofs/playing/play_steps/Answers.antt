use Rattle.std.proofs.Common.{◌≡◌, ◌<◌, ◌+◌, length, take, true, ap, sym, subst, ◌∙◌}
use Rattle.std.specs.Prelude.{reverse, Err}
use Rattle.fbc_script.specs.SingleTransaction.{is_insert}
use Rattle.fbc_console.specs.Transaction.{inserted, answer_to, answer_line}
use Rattle.fbc_console.specs.Saying.{IsSaid}
use Rattle.fbc_console.proofs.SayingLemmas.{has_room, steps_cut}
use Rattle.fbc_console.proofs.playing.play_steps.Goals as goal

pub answer_step-answer-requires-clause-room : goal.answer_step-answer-requires-clause-room
answer_step-answer-requires-clause-room g c inserts =
    subst (λ values. length values < 45) (sym c.loop-at.invariant.0)
    (has_room c.args.steps.now c.loop-at.at c.index-steps-at.result c.loop-at-test.true c.requires.few (subst (λ s. is_insert s ≡ true) c.index-steps-at.is inserts))

pub returns-in-Err-clause-said : goal.returns-in-Err-clause-said
returns-in-Err-clause-said g c =
    let answered : c.answer_step-answer.result ≡ answer_to (inserted (reverse (take c.loop-at.at c.args.steps.now))) _ =
    c.answer_step-answer.ensures.answer ∙ ap (λ values. answer_to values c.index-steps-at.result) c.loop-at.invariant.0 ∙ ap (answer_to (inserted (reverse (take c.loop-at.at c.args.steps.now)))) c.index-steps-at.is in
    steps_cut (g.K.Sink.may_have c.args.out.now) (g.K.Sink.may_have c.loop-at.out) (g.K.Sink.may_have c.say.new.out) c.args.steps.now c.loop-at.at c.index-steps-at.result c.in-Err.status c.loop-at-test.true c.loop-at.invariant.1
    (subst (λ a. IsSaid (Err c.in-Err.status) (g.K.Sink.may_have c.loop-at.out) (g.K.Sink.may_have c.say.new.out) (answer_line (c.loop-at.at + 3) a)) answered c.in-Err.ensures.said)
