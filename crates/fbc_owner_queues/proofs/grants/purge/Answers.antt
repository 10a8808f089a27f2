use Rattle.std.proofs.Common.{Some}
use Rattle.fbc_owner_queues.proofs.Purged.{purged_dead}
use Rattle.fbc_owner_queues.proofs.grants.purge.Goals as goal

pub returns-clause-dead : goal.returns-clause-dead
returns-clause-dead c =
    rw c.remove.ensures (purged_dead c.args.table.now c.args.owner (Some c.in_ok-request.request) c.requires)
