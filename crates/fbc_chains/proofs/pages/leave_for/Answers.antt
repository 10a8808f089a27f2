-- Nothing is done where it is the same page.
use Rattle.fbc_desk.specs.Calls.{GoesOn}
use Rattle.fbc_chains.proofs.pages.leave_for.Goals as goal

pub returns-else-page-other-clause-goes : goal.returns-else-page-other-clause-goes
returns-else-page-other-clause-goes c = GoesOn.stays c.args.desk.now
