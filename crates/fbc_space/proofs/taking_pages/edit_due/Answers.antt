-- Nothing is done.
use Rattle.fbc_desk.specs.Calls.{stays}
use Rattle.fbc_space.proofs.taking_pages.edit_due.Goals as goal

pub returns-in-Formatted-clause-goes : goal.returns-in-Formatted-clause-goes
returns-in-Formatted-clause-goes c = stays c.args.desk.now
