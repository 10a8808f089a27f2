use Rattle.std.proofs.Common.{sym}
use Rattle.fbc_owner_queues.specs.Grants.{is_grantable}
use Rattle.fbc_lock_table.proofs.Finds.{find_here, find_more}
use Rattle.fbc_owner_queues.proofs.grants.next_grant.Goals as goal

pub returns-then-is_grantable-clause-value : goal.returns-then-is_grantable-clause-value
returns-then-is_grantable-clause-value c =
    sym (find_here (is_grantable c.args.table.now c.args.resource) _ _ _ c.loop-k.invariant c.request-request.ensures.at (sym c.if-is_grantable.ensures.value))

pub loop-k-preserved : goal.loop-k-preserved
loop-k-preserved c =
    find_more (is_grantable c.args.table.now c.args.resource) _ _ _ c.loop-k.invariant c.request-request.ensures.at (sym c.if-is_grantable.ensures.value)
