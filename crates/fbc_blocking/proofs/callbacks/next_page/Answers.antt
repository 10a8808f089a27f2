use Rattle.std.proofs.Common.{None, ◌∙◌, ap, arith}
use Rattle.std.specs.List.{fold}
use Rattle.std.proofs.lemmas.List.{take_all}
use Rattle.fbc_blocking.specs.Callbacks.{with_called}
use Rattle.fbc_blocking.proofs.Called.{fold_step, next_page_is}
use Rattle.fbc_blocking.proofs.callbacks.next_page.Goals as goal

pub loop-k-preserved : goal.loop-k-preserved
loop-k-preserved c =
    c.with_called-least.ensures
    ∙ ap (λ least. with_called c.args.table.now c.args.owner c.args.above least c.request-request.result) c.loop-k.invariant
    ∙ fold_step (with_called c.args.table.now c.args.owner c.args.above) c.args.table.now.requests None c.loop-k.k c.request-request.result c.request-request.ensures.at

pub returns : goal.returns
returns c =
    let whole = take_all c.loop-k.k c.args.table.now.requests (omega (arith, c.used-k-end.ensures.count)) in
    next_page_is c.args.table.now c.args.owner c.args.above c.loop-k.least (c.loop-k.invariant ∙ ap (fold (with_called c.args.table.now c.args.owner c.args.above) None) whole)
