use Rattle.fbc_region.proofs.Opening.{opened_kept}
use Rattle.fbc_region.proofs.ledgers.Ledger.open.Goals as goal

pub invariant_of-result : goal.invariant_of-result
invariant_of-result c =
    opened_kept c.reserve.new.self c.push.new.self c.args.locks c.in-Ok.table
    (λ owner. rw (c.reserve.ensures.events) (c.requires owner))
    c.push.ensures.events
    c.in-Ok.ensures
    (rw (c.reserve.ensures.events) c.is_at_rest.ensures.few)
