use Rattle.std.proofs.Common.{◌↔◌, IsTrue, subst}
use Rattle.fbc_legal.specs.Guards.{GuardOfEnter}
use Rattle.fbc_region.specs.Stepping.{recorded_scene}
use Rattle.fbc_region.proofs.Admitting.{admits}
use Rattle.fbc_region.proofs.ledgers.Ledger.may_enter.Goals as goal

pub returns : goal.returns
returns c =
    subst (λ j. IsTrue c.may_come.result ↔ GuardOfEnter (recorded_scene j) c.args.who c.args.name) c.self.view_is
    (admits c.self.inside.chronicle c.args.who c.args.name c.may_come.result c.may_come.ensures)
