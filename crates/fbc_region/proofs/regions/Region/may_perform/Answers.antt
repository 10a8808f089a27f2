use Rattle.std.proofs.Common.{◌↔◌, IsTrue, sym, subst}
use Rattle.fbc_legal.specs.Guards.{GuardOfEnter}
use Rattle.fbc_region.specs.Shared.{Shared}
use Rattle.fbc_region.specs.Stepping.{MayPerform, recorded_scene}
use Rattle.fbc_region.proofs.regions.Region.may_perform.Goals as goal

pub returns-in-Enter : goal.returns-in-Enter
returns-in-Enter g c =
    subst (λ a. IsTrue c.may_enter.result ↔ MayPerform (g.D.Device.reach c.args.self.now.device) c.args.self.now.size c.args.self.now.journal c.args.who a) (sym c.in-Enter.is)
    (subst (λ (v : Shared _). IsTrue c.may_enter.result ↔ GuardOfEnter (recorded_scene v.journal) c.args.who c.in-Enter.name) c.self.view_is c.may_enter.ensures)
