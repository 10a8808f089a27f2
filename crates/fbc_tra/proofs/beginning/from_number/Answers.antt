-- The lock of the number is asked for, or granted, or refused.
use Rattle.std.proofs.Common.{◌∙◌, refl, sym}
use Rattle.fbc_tra.specs.declared.beginning.BeginStage.TheVariants as stages
use Rattle.fbc_tra.specs.Begins.{BeginAnswers, BeginMoves, BeginWants}
use Rattle.fbc_tra.proofs.Runs.{begins-first, stays-or-begins}
use Rattle.fbc_tra.proofs.Ways.{comes-here, here-ok, on-ok, stops-here-err, stops-on}
use Rattle.fbc_tra.proofs.beginning.from_number.Goals as goal

pub returns-in-Must-clause-comes : goal.returns-in-Must-clause-comes
returns-in-Must-clause-comes c = λ wait. comes-here _ _ _ _ _ (sym c.next.ensures.step ∙ c.in-Must.is, refl, refl)

pub returns-in-Must-clause-goes : goal.returns-in-Must-clause-goes
returns-in-Must-clause-goes c = stays-or-begins c.args.desk.now

pub returns-in-Got-clause-comes : goal.returns-in-Got-clause-comes
returns-in-Got-clause-comes c = λ wait.
    on-ok (BeginMoves wait) BeginAnswers c.args.desk.now c.begun.new.self c.from_begun.new.desk (stages.Number c.args.snapshot c.args.waiting) stages.Begun c.from_begun.new.stage c.from_begun.result
    (sym c.next.ensures.step ∙ c.in-Got.is, c.begun.ensures)
    (here-ok (BeginMoves wait) BeginAnswers c.begun.new.self c.from_begun.new.desk stages.Begun c.from_begun.new.stage c.from_begun.result c.from_begun.ensures.comes)

pub returns-in-Got-clause-goes : goal.returns-in-Got-clause-goes
returns-in-Got-clause-goes c = begins-first c.args.desk.now c.begun.new.self c.from_begun.new.desk c.args.snapshot c.begun.ensures c.from_begun.ensures.goes

pub returns-in-Got-clause-err : goal.returns-in-Got-clause-err
returns-in-Got-clause-err c = λ wait.
    stops-on (BeginMoves wait) BeginWants c.args.desk.now c.begun.new.self c.from_begun.new.desk (stages.Number c.args.snapshot c.args.waiting) stages.Begun c.from_begun.new.stage c.from_begun.result
    (sym c.next.ensures.step ∙ c.in-Got.is, c.begun.ensures)
    (stops-here-err (BeginMoves wait) BeginWants c.begun.new.self c.from_begun.new.desk stages.Begun c.from_begun.new.stage c.from_begun.result c.from_begun.ensures.err)

pub returns-in-Over-clause-comes : goal.returns-in-Over-clause-comes
returns-in-Over-clause-comes c = λ wait. comes-here _ _ _ _ _ (sym c.next.ensures.step ∙ c.in-Over.is, refl, refl)

pub returns-in-Over-clause-goes : goal.returns-in-Over-clause-goes
returns-in-Over-clause-goes c = stays-or-begins c.args.desk.now
