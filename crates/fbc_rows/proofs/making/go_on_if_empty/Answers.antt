-- Nothing is done.
use Rattle.fbc_desk.specs.Calls.{stays}
use Rattle.fbc_rows.proofs.making.go_on_if_empty.Goals as goal

pub returns-clause-goes : goal.returns-clause-goes
returns-clause-goes c = stays c.args.desk.now

pub returns-then-slot_of-ne0-clause-damages : goal.returns-then-slot_of-ne0-clause-damages
returns-then-slot_of-ne0-clause-damages c = c.begin_again.ensures.damages c.args.relation
