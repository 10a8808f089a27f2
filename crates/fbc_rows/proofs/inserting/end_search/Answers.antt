-- Nothing is done.
use Rattle.fbc_desk.specs.Calls.{stays}
use Rattle.std.proofs.Common.{Option, IfSome, subst}
use Rattle.fbc_rows.specs.declared.parts.InsertPart.{InsertPart}
use Rattle.fbc_rows.specs.declared.searching.Stop.{Stop}
use Rattle.fbc_rows.specs.Damages.{SearchDamages}
use Rattle.fbc_rows.proofs.inserting.end_search.Goals as goal

pub returns-in-Some-last-clause-goes : goal.returns-in-Some-last-clause-goes
returns-in-Some-last-clause-goes c = stays c.args.desk.now

pub returns-in-None-last-clause-goes : goal.returns-in-None-last-clause-goes
returns-in-None-last-clause-goes c = stays c.args.desk.now

pub returns-in-Some-clause-damages : goal.returns-in-Some-clause-damages
returns-in-Some-clause-damages c = λ (from : InsertPart) damages.
    c.end_at.ensures.damages from (subst (λ (f : Option Stop). IfSome f (SearchDamages c.args.desk.now c.args.relation from)) c.in-Some.is damages)
