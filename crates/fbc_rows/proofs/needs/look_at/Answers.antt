-- What a look comes to, told by the copies.
use Rattle.fbc_chains.proofs.Showing.{looked-shows, looks-told}
use Rattle.fbc_rows.proofs.Missed.{look-misses}
use Rattle.fbc_rows.proofs.needs.look_at.Goals as goal

pub returns-clause-held : goal.returns-clause-held
returns-clause-held c = looks-told c.args.desk.now c.args.page c.args.due c.to_read.result c.look_as.result c.to_read.ensures c.holds.ensures.cache c.look_as.ensures.held

pub returns-clause-same : goal.returns-clause-same
returns-clause-same c = looked-shows c.args.desk.now c.look_as.new.self c.to_read.result c.look_as.result c.look_as.ensures.after

pub returns-clause-misses : goal.returns-clause-misses
returns-clause-misses c = look-misses c.args.desk.now c.look_as.new.self c.to_read.result c.args.due c.look_as.result c.look_as.ensures.held c.look_as.ensures.after
