use Rattle.std.proofs.Common.{sym, arith}
use Rattle.std.proofs.lemmas.Bool.Decides.{nat_tests}
use Rattle.fbc_owner_queues.specs.Grants.{is_by}
use Rattle.fbc_lock_table.proofs.Finds.{find_here, find_more}
use Rattle.fbc_owner_queues.proofs.grants.first_of.Goals as goal

pub returns-then-first-owner : goal.returns-then-first-owner
returns-then-first-owner c =
    sym (find_here (is_by c.args.owner) _ _ _ c.loop-k.invariant c.request-first.ensures.at (grind (arith, nat_tests)))

pub loop-k-preserved : goal.loop-k-preserved
loop-k-preserved c =
    find_more (is_by c.args.owner) _ _ _ c.loop-k.invariant c.request-first.ensures.at (grind (arith, nat_tests))
