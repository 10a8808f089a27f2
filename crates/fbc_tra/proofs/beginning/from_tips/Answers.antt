-- One number more is there, or not.
use Rattle.std.proofs.Common.{◌∙◌, Option, refl, sym, subst}
use Rattle.fbc_tra.specs.declared.beginning.BeginStage.TheVariants as stages
use Rattle.fbc_tra.specs.declared.steps.BodyStep.{BodyStep}
use Rattle.fbc_tra.specs.Begins.{BarredOrNot}
use Rattle.fbc_tra.proofs.Runs.{stays-or-begins}
use Rattle.fbc_tra.proofs.Ways.{comes-here}
use Rattle.fbc_tra.proofs.beginning.from_tips.Goals as goal

pub returns-in-Some-clause-comes : goal.returns-in-Some-clause-comes
returns-in-Some-clause-comes c =
    comes-here c.args.desk.now c.args.desk.now (stages.Tips c.args.part) (stages.Tips c.args.part) c.in-Some.step
    (subst (λ (barred : Option BodyStep). BarredOrNot barred c.args.desk.now c.args.part.held c.args.desk.now c.args.part.held c.in-Some.step) (sym c.in-Some.is ∙ c.bar.ensures) (refl, refl, refl))

pub returns-in-Some-clause-goes : goal.returns-in-Some-clause-goes
returns-in-Some-clause-goes c = stays-or-begins c.args.desk.now
