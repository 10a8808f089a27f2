-- A page that is not there leaves the desk.
use Rattle.fbc_desk.specs.Calls.{stays}
use Rattle.fbc_desk.proofs.desk.Desk.look_as.Goals as goal

pub returns-in-Miss-clause-goes : goal.returns-in-Miss-clause-goes
returns-in-Miss-clause-goes c = stays c.args.self.now

pub returns-in-Damaged-clause-goes : goal.returns-in-Damaged-clause-goes
returns-in-Damaged-clause-goes c = stays c.args.self.now
