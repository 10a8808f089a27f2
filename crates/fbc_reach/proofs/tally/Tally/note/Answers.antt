use Rattle.std.proofs.Common.{refl, sym, subst}
use Rattle.fbc_reach.specs.Tally.{IsTallyOf}
use Rattle.fbc_reach.proofs.tally.Tally.note.Goals as goal

pub returns-then-judge_again-clause-noted : goal.returns-then-judge_again-clause-noted
returns-then-judge_again-clause-noted g c done tally =
    c.judge_again.ensures.judged c.if-judge_again.true c.args.shape.now (g.D.Device.bytes c.args.device.now) done refl tally

pub returns-clause-noted : goal.returns-clause-noted
returns-clause-noted g c done tally =
    let shape = c.args.shape.now in
    let file = g.D.Device.bytes c.args.device.now in
    c.in_ok-keep_first.ensures.kept shape file done refl c.in_ok-read.ensures.read
    (subst (IsTallyOf shape file done) (sym (c.judge_again.ensures.same c.if-judge_again.false)) tally)
