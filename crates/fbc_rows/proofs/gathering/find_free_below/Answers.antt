-- A page that is missed may not be used yet.
use Rattle.fbc_rows.proofs.Damaged.{find-damages}
use Rattle.fbc_rows.proofs.Missed.{find-misses}
use Rattle.fbc_rows.proofs.Damaged.{used-shows}
use Rattle.fbc_rows.proofs.gathering.find_free_below.Goals as goal

pub returns-clause-misses : goal.returns-clause-misses
returns-clause-misses c = find-misses c.args.desk.now c.find_free.new.desk _ c.args.passed.now c.find_free.new.search c.find_free.result c.find_free.ensures.found c.find_free.ensures.same

pub returns-clause-damages : goal.returns-clause-damages
returns-clause-damages c = λ relation. find-damages c.args.desk.now c.find_free.new.desk relation _ c.args.passed.now c.find_free.new.search c.find_free.result c.find_free.ensures.found c.find_free.ensures.same

pub returns-clause-same : goal.returns-clause-same
returns-clause-same c = used-shows c.args.desk.now c.find_free.new.desk c.find_free.ensures.same
