use Rattle.fbc_region.proofs.Reaping.{adds_in_reap, kept_in_reap, room_in_reap, uses_in_reap}
use Rattle.fbc_region.proofs.ledgers.Ledger.reap.Goals as goal

pub purge_all-requires-clause-room : goal.purge_all-requires-clause-room
purge_all-requires-clause-room c =
    room_in_reap c.args.self.now c.self.inside.chronicle c.push.new.self c.push.new.self c.self.inside.table c.self.inside.table c.args.owner c.args.dead c.args.ask c.self.view_is c.self.invariant c.requires.room c.push.ensures.events c.push.ensures.shape c.push.ensures.spare c.is_lawful.ensures

pub invariant_of-self : goal.invariant_of-self
invariant_of-self c =
    kept_in_reap c.args.self.now c.self.inside.chronicle c.push.new.self c.purge_all.new.chronicle c.self.inside.table c.purge_all.new.table c.args.owner c.args.dead c.args.ask c.self.view_is c.self.invariant c.requires.room c.push.ensures.events c.push.ensures.shape c.push.ensures.spare c.is_lawful.ensures c.purge_all.ensures.grants c.purge_all.ensures.room

pub returns-clause-adds : goal.returns-clause-adds
returns-clause-adds c =
    adds_in_reap c.args.self.now c.self.inside.chronicle c.push.new.self c.purge_all.new.chronicle c.self.inside.table c.purge_all.new.table c.args.owner c.args.dead c.args.ask c.self.view_is c.self.invariant c.requires.room c.push.ensures.events c.push.ensures.shape c.push.ensures.spare c.is_lawful.ensures c.purge_all.ensures.grants c.purge_all.ensures.room

pub returns-clause-room : goal.returns-clause-room
returns-clause-room c =
    uses_in_reap c.args.self.now c.self.inside.chronicle c.push.new.self c.purge_all.new.chronicle c.self.inside.table c.purge_all.new.table c.args.owner c.args.dead c.args.ask c.self.view_is c.self.invariant c.requires.room c.push.ensures.events c.push.ensures.shape c.push.ensures.spare c.is_lawful.ensures c.purge_all.ensures.grants c.purge_all.ensures.room
