-- What stops the search tells.
use Rattle.std.proofs.Common.{Option, IfSome, subst}
use Rattle.fbc_rows.specs.declared.gathering.Empty.{Empty}
use Rattle.fbc_rows.specs.Damages.{EmptyDamages}
use Rattle.fbc_rows.specs.Missing.{EmptyMisses}
use Rattle.fbc_rows.proofs.Ends.{between-empty, damages-empty, leaves-empty, misses-empty, writes-empty}
use Rattle.fbc_rows.proofs.gathering.find_slot.Goals as goal

pub returns-in-Some-clause-between : goal.returns-in-Some-clause-between
returns-in-Some-clause-between c = between-empty c.in-Some.empty c.end_at.result c.end_at.ensures.ends

pub returns-in-Some-clause-leaves : goal.returns-in-Some-clause-leaves
returns-in-Some-clause-leaves c = leaves-empty c.find_empty-found.new.desk c.end_at.new.part c.in-Some.empty c.end_at.result c.end_at.ensures.ends

pub returns-in-Some-clause-misses : goal.returns-in-Some-clause-misses
returns-in-Some-clause-misses c =
    misses-empty c.find_empty-found.new.desk c.in-Some.empty c.end_at.result c.end_at.ensures.ends
    (subst (λ (f : Option Empty). IfSome f (EmptyMisses c.find_empty-found.new.desk)) c.in-Some.is c.find_empty-found.ensures.misses)

pub returns-in-Some-clause-writes : goal.returns-in-Some-clause-writes
returns-in-Some-clause-writes c = writes-empty c.find_empty-found.new.desk c.in-Some.empty c.end_at.result c.end_at.ensures.ends

pub returns-in-Some-clause-damages : goal.returns-in-Some-clause-damages
returns-in-Some-clause-damages c =
    damages-empty c.find_empty-found.new.desk c.args.relation c.in-Some.empty c.end_at.result c.end_at.ensures.ends
    (subst (λ (f : Option Empty). IfSome f (EmptyDamages c.find_empty-found.new.desk c.args.relation)) c.in-Some.is c.find_empty-found.ensures.damages)
