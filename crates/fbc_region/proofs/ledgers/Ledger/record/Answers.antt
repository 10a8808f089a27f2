use Rattle.std.proofs.Common.{rules}
use Rattle.fbc_region.specs.Shared.{HasRoom}
use Rattle.fbc_region.proofs.Keeping.{came_quiet, kept_quiet}
use Rattle.fbc_region.proofs.ledgers.Ledger.record.Goals as goal

pub push-requires-clause-few : goal.push-requires-clause-few
push-requires-clause-few c = came_quiet c.self.inside.chronicle c.args.act c.self.inside.table c.requires.quiet c.self.invariant

pub invariant_of-self : goal.invariant_of-self
invariant_of-self c =
    let room : HasRoom c.self.inside.chronicle 1 = search rules in
    kept_quiet c.self.inside.chronicle c.push.new.self c.args.owner c.args.act c.requires.quiet c.push.ensures.events c.self.inside.table c.self.invariant c.push.ensures.spare room
