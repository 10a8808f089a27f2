-- When all pages are unpinned, none is in use.
use Rattle.fbc_rows.proofs.Steps.{unpinned-all}
use Rattle.fbc_rows.proofs.Shown.{unpins-show}
use Rattle.fbc_rows.proofs.needs.leave_all.Goals as goal

pub returns-clause-unused : goal.returns-clause-unused
returns-clause-unused c = unpinned-all c.args.desk.now c.unpin_all.new.self c.unpin_all.ensures.unpins

pub returns-clause-same : goal.returns-clause-same
returns-clause-same c = unpins-show c.args.desk.now c.unpin_all.new.self c.unpin_all.ensures.unpins
