-- The lock is given up, and the transaction is over.
use Rattle.std.proofs.Common.{◌≡◌, refl, sym, subst, arith}
use Rattle.fbc_tra.specs.declared.committing.CommitStage.{CommitStage}
use Rattle.fbc_tra.specs.declared.committing.CommitStage.TheVariants as stages
use Rattle.fbc_tra.specs.declared.steps.BodyStep.TheVariants as step
use Rattle.fbc_tra.specs.Commits.{CommitComesTo}
use Rattle.fbc_tra.proofs.Ways.{comes-here}
use Rattle.fbc_tra.proofs.committing.Commit.next.Goals as goal

pub returns-in-Lowered-clause-comes : goal.returns-in-Lowered-clause-comes
returns-in-Lowered-clause-comes c =
    let at : c.args.self.now.stage ≡ stages.Lowered = grind (arith, c.self.view_is, c.in-Lowered.is) in
    subst (λ (s : CommitStage). CommitComesTo c.args.self.now.number c.args.desk.now s c.ended.new.self s step.Done) (sym at) (comes-here _ _ _ _ _ (c.ended.ensures, refl))
