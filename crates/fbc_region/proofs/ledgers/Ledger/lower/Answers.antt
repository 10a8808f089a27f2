use Rattle.fbc_region.proofs.Lowering.{adds_in_lower, kept_in_lower, room_in_lower, uses_in_lower}
use Rattle.fbc_region.proofs.ledgers.Ledger.lower.Goals as goal

pub grant_all-requires-clause-room : goal.grant_all-requires-clause-room
grant_all-requires-clause-room c =
    room_in_lower c.args.self.now c.self.inside.chronicle c.push.new.self c.push.new.self c.self.inside.table c.self.inside.table c.args.owner c.args.resource c.args.level c.self.view_is c.self.invariant c.requires.part c.requires.room c.lower.new.self c.lower.ensures c.push.ensures.events c.push.ensures.shape c.push.ensures.spare c.is_lawful.ensures

pub invariant_of-self : goal.invariant_of-self
invariant_of-self c =
    kept_in_lower c.args.self.now c.self.inside.chronicle c.push.new.self c.grant_all.new.chronicle c.self.inside.table c.grant_all.new.table c.args.owner c.args.resource c.args.level c.self.view_is c.self.invariant c.requires.part c.requires.room c.lower.new.self c.lower.ensures c.push.ensures.events c.push.ensures.shape c.push.ensures.spare c.is_lawful.ensures c.grant_all.ensures.grants c.grant_all.ensures.room

pub returns-clause-adds : goal.returns-clause-adds
returns-clause-adds c =
    adds_in_lower c.args.self.now c.self.inside.chronicle c.push.new.self c.grant_all.new.chronicle c.self.inside.table c.grant_all.new.table c.args.owner c.args.resource c.args.level c.self.view_is c.self.invariant c.requires.part c.requires.room c.lower.new.self c.lower.ensures c.push.ensures.events c.push.ensures.shape c.push.ensures.spare c.is_lawful.ensures c.grant_all.ensures.grants c.grant_all.ensures.room

pub returns-clause-room : goal.returns-clause-room
returns-clause-room c =
    uses_in_lower c.args.self.now c.self.inside.chronicle c.push.new.self c.grant_all.new.chronicle c.self.inside.table c.grant_all.new.table c.args.owner c.args.resource c.args.level c.self.view_is c.self.invariant c.requires.part c.requires.room c.lower.new.self c.lower.ensures c.push.ensures.events c.push.ensures.shape c.push.ensures.spare c.is_lawful.ensures c.grant_all.ensures.grants c.grant_all.ensures.room
