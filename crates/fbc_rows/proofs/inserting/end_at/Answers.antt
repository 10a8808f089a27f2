-- Nothing is done.
use Rattle.std.proofs.Common.{subst}
use Rattle.fbc_rows.specs.declared.searching.Stop.{Stop}
use Rattle.fbc_desk.specs.Calls.{stays}
use Rattle.fbc_rows.specs.declared.parts.InsertPart.{InsertPart}
use Rattle.fbc_rows.specs.Damages.{SearchDamages}
use Rattle.fbc_rows.proofs.inserting.end_at.Goals as goal

pub returns-in-Room-clause-goes : goal.returns-in-Room-clause-goes
returns-in-Room-clause-goes c = stays c.args.desk.now

pub returns-in-Miss-clause-goes : goal.returns-in-Miss-clause-goes
returns-in-Miss-clause-goes c = stays c.args.desk.now

pub returns-in-Damaged-clause-goes : goal.returns-in-Damaged-clause-goes
returns-in-Damaged-clause-goes c = stays c.args.desk.now

pub returns-in-Damaged-clause-damages : goal.returns-in-Damaged-clause-damages
returns-in-Damaged-clause-damages c = λ (from : InsertPart) damages. subst (λ (s : Stop). SearchDamages c.args.desk.now c.args.relation from s) c.in-Damaged.is damages
