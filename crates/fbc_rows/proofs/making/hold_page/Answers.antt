-- A page that is missed may not be used yet.
use Rattle.fbc_rows.proofs.Damaged.{free-damages}
use Rattle.fbc_rows.proofs.Missed.{free-misses}
use Rattle.fbc_rows.proofs.Shown.{free-shows}
use Rattle.fbc_rows.proofs.making.hold_page.Goals as goal

pub returns-clause-misses : goal.returns-clause-misses
returns-clause-misses c = free-misses c.args.desk.now c.args.page c.hold_free.result c.hold_free.new.desk c.hold_free.ensures.held

pub returns-clause-damages : goal.returns-clause-damages
returns-clause-damages c = λ relation. free-damages c.args.desk.now relation c.args.page c.hold_free.result c.hold_free.new.desk c.hold_free.ensures.held

pub returns-clause-same : goal.returns-clause-same
returns-clause-same c = free-shows c.args.desk.now c.args.page c.hold_free.result c.hold_free.new.desk c.hold_free.ensures.held
