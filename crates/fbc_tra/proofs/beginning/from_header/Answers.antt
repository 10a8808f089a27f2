-- The header is held.
use Rattle.std.proofs.Common.{refl}
use Rattle.fbc_tra.specs.declared.beginning.BeginStage.TheVariants as stages
use Rattle.fbc_tra.specs.Begins.{BeginAnswers, BeginMoves, BeginWants}
use Rattle.fbc_tra.proofs.Runs.{calls-first, goes-or-begins}
use Rattle.fbc_tra.proofs.Ways.{comes-here, on-ok, stops-on}
use Rattle.fbc_tra.proofs.beginning.from_header.Goals as goal

pub returns-in-Here-clause-comes : goal.returns-in-Here-clause-comes
returns-in-Here-clause-comes c =
    on-ok (BeginMoves c.args.wait) BeginAnswers c.args.desk.now c.hold_header.new.desk c.from_tips.new.desk stages.Header (stages.Tips c.new.result) c.from_tips.new.stage c.from_tips.result
    (c.in-Here.ensures.held, c.in-Here.ensures.after, c.new.ensures) c.from_tips.ensures.comes

pub returns-in-Here-clause-goes : goal.returns-in-Here-clause-goes
returns-in-Here-clause-goes c = calls-first c.args.desk.now c.hold_header.new.desk c.from_tips.new.desk c.hold_header.ensures.goes c.from_tips.ensures.goes

pub returns-in-Here-clause-err : goal.returns-in-Here-clause-err
returns-in-Here-clause-err c =
    stops-on (BeginMoves c.args.wait) BeginWants c.args.desk.now c.hold_header.new.desk c.from_tips.new.desk stages.Header (stages.Tips c.new.result) c.from_tips.new.stage c.from_tips.result
    (c.in-Here.ensures.held, c.in-Here.ensures.after, c.new.ensures) c.from_tips.ensures.err

pub returns-in-Miss-clause-comes : goal.returns-in-Miss-clause-comes
returns-in-Miss-clause-comes c = comes-here _ _ _ _ _ ((c.in-Miss.ensures.held, c.in-Miss.ensures.after), refl)

pub returns-in-Miss-clause-goes : goal.returns-in-Miss-clause-goes
returns-in-Miss-clause-goes c = goes-or-begins c.args.desk.now c.hold_header.new.desk c.hold_header.ensures.goes

pub returns-in-Damaged-clause-comes : goal.returns-in-Damaged-clause-comes
returns-in-Damaged-clause-comes c = comes-here _ _ _ _ _ ((c.in-Damaged.ensures.held, c.in-Damaged.ensures.after), refl)

pub returns-in-Damaged-clause-goes : goal.returns-in-Damaged-clause-goes
returns-in-Damaged-clause-goes c = goes-or-begins c.args.desk.now c.hold_header.new.desk c.hold_header.ensures.goes
