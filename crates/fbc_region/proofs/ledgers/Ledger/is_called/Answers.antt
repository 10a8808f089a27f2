use Rattle.std.proofs.Common.{◌≡◌, rules}
use Rattle.fbc_region.specs.Shared.{locks_in}
use Rattle.fbc_region.proofs.Called.{is_called_by}
use Rattle.fbc_region.proofs.ledgers.Ledger.is_called.Goals as goal

pub returns : goal.returns
returns c =
    let same : c.self.inside.table ≡ locks_in c.args.self.now = search rules in
    is_called_by c.self.inside.table (locks_in c.args.self.now) same c.args.owner c.next_callback.result c.next_callback.ensures c.is_some.result c.is_some.ensures
