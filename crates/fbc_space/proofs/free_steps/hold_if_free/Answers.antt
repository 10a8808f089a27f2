-- Nothing is done.
use Rattle.fbc_desk.specs.Calls.{stays}
use Rattle.fbc_space.proofs.free_steps.hold_if_free.Goals as goal

pub returns-then-taken-clause-goes : goal.returns-then-taken-clause-goes
returns-then-taken-clause-goes c = stays c.args.desk.now

pub returns-then-pinned-clause-goes : goal.returns-then-pinned-clause-goes
returns-then-pinned-clause-goes c = stays c.args.desk.now
