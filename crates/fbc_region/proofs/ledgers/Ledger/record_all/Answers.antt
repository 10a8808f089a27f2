use Rattle.std.proofs.Common.{length}
use Rattle.fbc_region.proofs.Locals.{one_more, room_done, room_more}
use Rattle.fbc_region.proofs.ledgers.Ledger.record_all.Goals as goal

pub loop-event-preserved : goal.loop-event-preserved
loop-event-preserved c = (
  one_more c.args.self.now c.loop-event.self c.record.new.self c.args.owner c.args.local.now c.loop-event.event-index c.event-item.result c.loop-event-test.true c.event-item.is c.loop-event.invariant.0 c.record.ensures.adds,
  room_more c.args.self.now c.loop-event.self c.record.new.self c.loop-event.event-index (length c.args.local.now) c.loop-event-test.true c.loop-event.invariant.1 c.record.ensures.room,
)

pub returns-clause-room : goal.returns-clause-room
returns-clause-room c = room_done c.args.self.now c.loop-event.self c.loop-event.event-index (length c.args.local.now) c.loop-event-test.false c.loop-event.invariant.1
