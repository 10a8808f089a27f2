-- The number is marked, or another write comes first, or the mark may not be made.
use Rattle.std.proofs.Common.{refl, subst}
use Rattle.fbc_desk.proofs.Goes.{goes_on}
use Rattle.fbc_tip.specs.declared.marks.MarkStep.{MarkStep}
use Rattle.fbc_tra.specs.declared.committing.CommitStage.TheVariants as stages
use Rattle.fbc_tra.specs.Commits.{CommitMoves, CommitWants, Marks}
use Rattle.fbc_tra.proofs.Ways.{any-err, comes-here, comes-on, stops-here}
use Rattle.fbc_tra.proofs.committing.from_mark.Goals as goal

pub returns-in-Done-clause-comes : goal.returns-in-Done-clause-comes
returns-in-Done-clause-comes c =
    comes-on c.args.desk.now c.try_mark.new.desk c.from_marked.new.desk (stages.Mark c.args.page) (stages.Marked c.args.page) c.from_marked.new.stage c.from_marked.result (
      refl,
      subst (λ (step : MarkStep). Marks c.args.desk.now c.try_mark.new.desk c.args.page c.args.number step) c.in-Done.is c.in_ok-try_mark.ensures.step,
    ) c.from_marked.ensures.comes

pub returns-in-Done-clause-goes : goal.returns-in-Done-clause-goes
returns-in-Done-clause-goes c = goes_on c.args.desk.now c.try_mark.new.desk c.from_marked.new.desk c.try_mark.ensures.goes c.from_marked.ensures.goes

pub returns-in-Must-clause-comes : goal.returns-in-Must-clause-comes
returns-in-Must-clause-comes c =
    comes-here _ _ _ _ _ (
      subst (λ (step : MarkStep). Marks c.args.desk.now c.try_mark.new.desk c.args.page c.args.number step) c.in-Must.is c.in_ok-try_mark.ensures.step,
      refl,
    )

pub returns-in-Refused-clause-comes : goal.returns-in-Refused-clause-comes
returns-in-Refused-clause-comes c =
    comes-here _ _ _ _ _ (
      subst (λ (step : MarkStep). Marks c.args.desk.now c.try_mark.new.desk c.args.page c.args.number step) c.in-Refused.is c.in_ok-try_mark.ensures.step,
      refl,
    )

pub returns-in_err-try_mark-clause-err : goal.returns-in_err-try_mark-clause-err
returns-in_err-try_mark-clause-err c =
    any-err c.from_residual.result (stops-here (CommitMoves c.args.number) CommitWants c.args.desk.now c.try_mark.new.desk (stages.Mark c.args.page) (stages.Mark c.args.page) (c.in_err-try_mark.ensures.err, refl))
