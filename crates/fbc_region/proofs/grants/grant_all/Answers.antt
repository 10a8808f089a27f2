use Rattle.std.proofs.Common.{arith}
use Rattle.fbc_region.proofs.GrantLoop.{fewer_next_goes, granting_ends, granting_next, is_next, is_none}
use Rattle.fbc_region.proofs.grants.grant_all.Goals as goal

pub push-requires-clause-room : goal.push-requires-clause-room
push-requires-clause-room c =
    omega (arith, fewer_next_goes c.args.resource c.args.table.now c.args.chronicle.now c.loop-owner.table c.loop-owner.chronicle c.loop-owner.invariant c.in-Some.owner c.grant_waiting.new.table (is_next c.loop-owner.table c.args.resource c.in-Some.owner c.grant_waiting.new.table c.in-Some.ensures.answer c.in-Some.ensures.after), c.loop-owner.invariant.room)

pub loop-owner-smaller : goal.loop-owner-smaller
loop-owner-smaller c =
    omega (arith, fewer_next_goes c.args.resource c.args.table.now c.args.chronicle.now c.loop-owner.table c.loop-owner.chronicle c.loop-owner.invariant c.in-Some.owner c.grant_waiting.new.table (is_next c.loop-owner.table c.args.resource c.in-Some.owner c.grant_waiting.new.table c.in-Some.ensures.answer c.in-Some.ensures.after))

pub loop-owner-preserved : goal.loop-owner-preserved
loop-owner-preserved c =
    granting_next c.args.resource c.args.table.now c.args.chronicle.now c.loop-owner.table c.loop-owner.chronicle c.loop-owner.invariant c.in-Some.owner c.granted-level.result c.grant_waiting.new.table c.push.new.self
    (is_next c.loop-owner.table c.args.resource c.in-Some.owner c.grant_waiting.new.table c.in-Some.ensures.answer c.in-Some.ensures.after) c.granted-level.ensures c.push.ensures.events c.push.ensures.shape c.push.ensures.spare

pub returns-clause-grants : goal.returns-clause-grants
returns-clause-grants c =
    let none = is_none c.loop-owner.table c.args.resource c.grant_waiting.new.table c.in_default.ensures.answer c.in_default.ensures.after in
    granting_ends c.args.resource c.args.table.now c.args.chronicle.now c.loop-owner.table c.loop-owner.chronicle c.loop-owner.invariant c.grant_waiting.new.table none.0 none.1
