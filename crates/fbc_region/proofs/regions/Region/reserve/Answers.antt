use Rattle.std.proofs.Common.{◌≡◌, ◌*◌, rules}
use Rattle.fbc_region.proofs.regions.Region.reserve.Goals as goal

pub returns-clause-reserved : goal.returns-clause-reserved
returns-clause-reserved g c =
    let same : c.self.inside.ledger ≡ c.args.self.now.journal = search rules in
    λ n reserved. c.reserve.ensures.room (n * 73) (rw same reserved)
