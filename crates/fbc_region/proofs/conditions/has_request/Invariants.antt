use Rattle.std.proofs.Common.{◌≡◌, take, None}
use Rattle.std.specs.List.{find}
use Rattle.fbc_owner_queues.specs.Grants.{is_by}
use Rattle.fbc_region.proofs.conditions.has_request.Given as goal

abbrev pub invariant-loop-k : goal.invariant-loop-k
invariant-loop-k l = find (is_by l.owner) (take l.k l.table.requests) ≡ None
