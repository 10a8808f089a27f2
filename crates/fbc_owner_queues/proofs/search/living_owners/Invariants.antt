use Rattle.std.proofs.Common.{◌≡◌, take, []}
use Rattle.std.specs.List.{fold}
use Rattle.fbc_owner_queues.specs.Living.{with_living}
use Rattle.fbc_owner_queues.proofs.search.living_owners.Given as goal

abbrev pub invariant-loop-k : goal.invariant-loop-k
invariant-loop-k l = l.owners.items ≡ fold with_living [] (take l.k l.table.requests)
