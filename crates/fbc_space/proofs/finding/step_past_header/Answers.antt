-- What the header shows is what it showed before it was looked at.
use Rattle.std.proofs.Common.{refl, arith}
use Rattle.fbc_kinds.specs.declared.pages.Header.{Header}
use Rattle.fbc_space.proofs.Used.{header-same}
use Rattle.fbc_space.proofs.finding.step_past_header.Goals as goal

pub returns-then-inventories-search-clause-step : goal.returns-then-inventories-search-clause-step
returns-then-inventories-search-clause-step c =
    let same = header-same c.args.desk.now c.look_at_header.new.desk c.look_at_header.ensures.same (λ (h : Header). h.inventories) in
    (refl, (refl, c.in-Here.ensures.held, grind (arith, c.inventories.ensures, c.cache.ensures, c.if-inventories-search.true, same)))

pub returns-else-inventories-search-clause-step : goal.returns-else-inventories-search-clause-step
returns-else-inventories-search-clause-step c =
    let same = header-same c.args.desk.now c.look_at_header.new.desk c.look_at_header.ensures.same (λ (h : Header). h.inventories) in
    (refl, record { here = c.in-Here.ensures.held; counts = grind (arith, c.inventories.ensures, c.cache.ensures, c.if-inventories-search.false, same) })
