-- Nothing is done.
use Rattle.fbc_desk.specs.Calls.{stays}
use Rattle.fbc_rows.proofs.gathering.look_past_pointers.Goals as goal

pub returns-clause-goes : goal.returns-clause-goes
returns-clause-goes c = stays c.args.desk.now

pub returns-then-pointer_count-known-clause-damages : goal.returns-then-pointer_count-known-clause-damages
returns-then-pointer_count-known-clause-damages c = c.go_on.ensures.damages c.args.relation

pub returns-then-known-eq-MOST_POINTERS-clause-damages : goal.returns-then-known-eq-MOST_POINTERS-clause-damages
returns-then-known-eq-MOST_POINTERS-clause-damages c = c.begin_last.ensures.damages c.args.relation
