use Rattle.std.proofs.Common.{ap, is_some, sym, arith}
use Rattle.std.proofs.lemmas.Bool.Decides.{nat_tests}
use Rattle.fbc_owner_queues.specs.Grants.{is_by}
use Rattle.fbc_lock_table.proofs.Finds.{find_here, find_more}
use Rattle.fbc_region.proofs.conditions.has_request.Goals as goal

pub returns-then-request-owner : goal.returns-then-request-owner
returns-then-request-owner c =
    sym (ap is_some (find_here (is_by c.args.owner) _ _ _ c.loop-k.invariant c.request-request.ensures.at (grind (arith, nat_tests))))

pub loop-k-preserved : goal.loop-k-preserved
loop-k-preserved c =
    find_more (is_by c.args.owner) _ _ _ c.loop-k.invariant c.request-request.ensures.at (grind (arith, nat_tests))
