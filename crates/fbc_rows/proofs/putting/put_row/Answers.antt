-- Nothing is done.
use Rattle.fbc_desk.specs.Calls.{stays}
use Rattle.fbc_rows.proofs.putting.put_row.Goals as goal

pub returns-in-None-clause-goes : goal.returns-in-None-clause-goes
returns-in-None-clause-goes c = stays c.args.desk.now
