-- A page that is looked at is used.
use Rattle.fbc_space.proofs.Used.{used-by}
use Rattle.fbc_space.proofs.needs.look_at_inventory.Goals as goal

pub returns-clause-same : goal.returns-clause-same
returns-clause-same c = used-by c.args.desk.now c.look_as.new.self c.to_change.result c.look_as.result c.look_as.ensures.after
