-- The page of the number is held.
use Rattle.std.proofs.Common.{◌/◌, ℕ, refl, subst}
use Rattle.fbc_desk.specs.declared.holding.Held.TheVariants as held
use Rattle.fbc_desk.proofs.Goes.{goes_on}
use Rattle.fbc_tra.specs.declared.committing.CommitStage.TheVariants as stages
use Rattle.fbc_tra.specs.Pages.{HoldsTip}
use Rattle.fbc_tra.specs.Commits.{CommitAnswers, CommitMoves, CommitWants}
use Rattle.fbc_tra.proofs.Ways.{comes-here, on-ok, stops-on}
use Rattle.fbc_tra.proofs.committing.from_tip.Goals as goal

holds : (c : goal.After-from_mark) → CommitMoves c.args.number c.args.desk.now (stages.Tip c.args.page) c.hold_tip.new.desk (stages.Mark c.args.page)
holds c = (
  refl,
  subst (λ (n : ℕ). HoldsTip c.args.desk.now c.args.page (c.args.number / n) held.Here) c.tip_numbers.ensures.numbers c.in-Here.ensures.held,
  c.in-Here.ensures.after,
)

pub returns-in-Here-clause-comes : goal.returns-in-Here-clause-comes
returns-in-Here-clause-comes c =
    on-ok (CommitMoves c.args.number) (CommitAnswers c.args.number) c.args.desk.now c.hold_tip.new.desk c.from_mark.new.desk (stages.Tip c.args.page) (stages.Mark c.args.page) c.from_mark.new.stage c.from_mark.result
    (holds c) c.from_mark.ensures.comes

pub returns-in-Here-clause-err : goal.returns-in-Here-clause-err
returns-in-Here-clause-err c =
    stops-on (CommitMoves c.args.number) CommitWants c.args.desk.now c.hold_tip.new.desk c.from_mark.new.desk (stages.Tip c.args.page) (stages.Mark c.args.page) c.from_mark.new.stage c.from_mark.result
    (holds c) c.from_mark.ensures.err

pub returns-in-Here-clause-goes : goal.returns-in-Here-clause-goes
returns-in-Here-clause-goes c = goes_on c.args.desk.now c.hold_tip.new.desk c.from_mark.new.desk c.hold_tip.ensures.goes c.from_mark.ensures.goes

pub returns-in-Miss-clause-comes : goal.returns-in-Miss-clause-comes
returns-in-Miss-clause-comes c =
    comes-here _ _ _ _ _ (
      (
        subst (λ (n : ℕ). HoldsTip c.args.desk.now c.args.page (c.args.number / n) (held.Miss c.in-Miss.need)) c.tip_numbers.ensures.numbers c.in-Miss.ensures.held,
        c.in-Miss.ensures.after,
      ),
      refl,
    )

pub returns-in-Damaged-clause-comes : goal.returns-in-Damaged-clause-comes
returns-in-Damaged-clause-comes c =
    comes-here _ _ _ _ _ (
      (
        subst (λ (n : ℕ). HoldsTip c.args.desk.now c.args.page (c.args.number / n) (held.Damaged c.in-Damaged.page c.in-Damaged.rule)) c.tip_numbers.ensures.numbers c.in-Damaged.ensures.held,
        c.in-Damaged.ensures.after,
      ),
      refl,
    )
