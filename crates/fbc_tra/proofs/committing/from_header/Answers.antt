-- The header is looked at, and names the page of the number.
use Rattle.std.proofs.Common.{refl}
use Rattle.fbc_desk.proofs.Goes.{goes_on}
use Rattle.fbc_tra.specs.declared.committing.CommitStage.TheVariants as stages
use Rattle.fbc_tra.specs.Commits.{CommitAnswers, CommitMoves, CommitWants}
use Rattle.fbc_tra.proofs.Ways.{comes-here, on-ok, stops-on}
use Rattle.fbc_tra.proofs.committing.from_header.Goals as goal

pub returns-in-Some-clause-comes : goal.returns-in-Some-clause-comes
returns-in-Some-clause-comes c =
    on-ok (CommitMoves c.args.number) (CommitAnswers c.args.number) c.args.desk.now c.look_at_header.new.desk c.from_tip.new.desk stages.Header (stages.Tip c.in-Some.page) c.from_tip.new.stage c.from_tip.result
    (record { here = c.in-Here.ensures.held; is_after = c.in-Here.ensures.after; names = c.in-Some.ensures }) c.from_tip.ensures.comes

pub returns-in-Some-clause-goes : goal.returns-in-Some-clause-goes
returns-in-Some-clause-goes c = goes_on c.args.desk.now c.look_at_header.new.desk c.from_tip.new.desk c.look_at_header.ensures.goes c.from_tip.ensures.goes

pub returns-in-None-clause-comes : goal.returns-in-None-clause-comes
returns-in-None-clause-comes c =
    comes-here _ _ _ _ _ (record { here = c.in-Here.ensures.held; is_after = c.in-Here.ensures.after; names = c.in-None.ensures }, refl)

pub returns-in-Miss-clause-comes : goal.returns-in-Miss-clause-comes
returns-in-Miss-clause-comes c = comes-here _ _ _ _ _ ((c.in-Miss.ensures.held, c.in-Miss.ensures.after), refl)

pub returns-in-Damaged-clause-comes : goal.returns-in-Damaged-clause-comes
returns-in-Damaged-clause-comes c = comes-here _ _ _ _ _ ((c.in-Damaged.ensures.held, c.in-Damaged.ensures.after), refl)

pub returns-in-Some-clause-err : goal.returns-in-Some-clause-err
returns-in-Some-clause-err c =
    stops-on (CommitMoves c.args.number) CommitWants c.args.desk.now c.look_at_header.new.desk c.from_tip.new.desk stages.Header (stages.Tip c.in-Some.page) c.from_tip.new.stage c.from_tip.result
    (record { here = c.in-Here.ensures.held; is_after = c.in-Here.ensures.after; names = c.in-Some.ensures }) c.from_tip.ensures.err
