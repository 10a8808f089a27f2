use Rattle.std.proofs.Common.{◌≡◌, take, None}
use Rattle.std.specs.List.{find}
use Rattle.fbc_owner_queues.specs.Grants.{is_grantable}
use Rattle.fbc_owner_queues.proofs.grants.next_grant.Given as goal

abbrev pub invariant-loop-k : goal.invariant-loop-k
invariant-loop-k l = find (is_grantable l.table l.resource) (take l.k l.table.requests) ≡ None
