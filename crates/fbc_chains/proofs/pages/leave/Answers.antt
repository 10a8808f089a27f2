-- An unpin changes nothing that is shown.
use Rattle.fbc_chains.proofs.Pins.{unpin-takes}
use Rattle.fbc_chains.proofs.Pins.{unpin-keeps}
use Rattle.fbc_chains.proofs.Showing.{shown-unpin}
use Rattle.fbc_chains.proofs.pages.leave.Goals as goal

pub returns-clause-same : goal.returns-clause-same
returns-clause-same c = shown-unpin c.args.desk.now c.unpin.new.self c.args.page c.unpin.ensures.unpins

pub returns-clause-stays : goal.returns-clause-stays
returns-clause-stays c = unpin-keeps c.args.desk.now c.unpin.new.self c.args.page c.unpin.ensures.unpins

pub returns-clause-gone : goal.returns-clause-gone
returns-clause-gone c = unpin-takes c.args.desk.now c.unpin.new.self c.args.page c.unpin.ensures.unpins
