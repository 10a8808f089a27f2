-- Nothing is done past the pointer pages that are known.
use Rattle.fbc_desk.specs.Calls.{GoesOn}
use Rattle.fbc_chains.proofs.slots.look_at_slot.Goals as goal

pub returns-then-at-slots-clause-goes : goal.returns-then-at-slots-clause-goes
returns-then-at-slots-clause-goes c = GoesOn.stays c.args.desk.now
