-- An unpin changes nothing that is shown.
use Rattle.fbc_chains.proofs.Showing.{shown-unpin}
use Rattle.fbc_rows.proofs.searching.leave.Goals as goal

pub returns-clause-same : goal.returns-clause-same
returns-clause-same c = shown-unpin c.args.desk.now c.unpin.new.self c.args.page c.unpin.ensures.unpins
