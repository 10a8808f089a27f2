use Rattle.std.proofs.Common.{◌∙◌, ap}
use Rattle.fbc_owner_queues.specs.Living.{with_living}
use Rattle.fbc_owner_queues.proofs.Members.{fold_more, fold_fits}
use Rattle.fbc_owner_queues.proofs.search.living_owners.Goals as goal

pub add_living-requires : goal.add_living-requires
add_living-requires c =
    rw c.loop-k.invariant (fold_fits c.args.table.now.requests c.loop-k.k 8 c.request-request.result c.request-request.ensures.at c.requires)

pub loop-k-preserved : goal.loop-k-preserved
loop-k-preserved c =
    c.add_living.ensures ∙ ap (λ owners. with_living owners c.request-request.result) c.loop-k.invariant ∙ fold_more c.args.table.now.requests c.loop-k.k c.request-request.result c.request-request.ensures.at
