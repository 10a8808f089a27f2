use Rattle.fbc_owner_queues.proofs.Lists.{shorter}
use Rattle.fbc_owner_queues.proofs.search.others_of.Goals as goal

pub returns-clause-shorter : goal.returns-clause-shorter
returns-clause-shorter c =
    shorter c.args.owners.now c.loop-other.others.items c.loop-other.other-index c.args.owner c.loop-other-test.false c.loop-other.invariant.items
