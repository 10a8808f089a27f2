use Rattle.fbc_region.proofs.PurgeLoop.{is_first, is_over, purging_ends, purging_fewer, purging_goes, purging_room}
use Rattle.fbc_region.proofs.grants.purge_all.Goals as goal

pub grant_all-requires-clause-room : goal.grant_all-requires-clause-room
grant_all-requires-clause-room c =
    purging_room c.args.dead c.args.table.now c.args.chronicle.now c.loop-resource.table c.loop-resource.chronicle c.loop-resource.invariant c.in-Some.resource c.purge.new.table (is_first c.loop-resource.table c.args.dead c.in-Some.resource c.purge.new.table c.in-Some.ensures.answer c.in-Some.ensures.after)

pub loop-resource-smaller : goal.loop-resource-smaller
loop-resource-smaller c =
    purging_fewer c.args.dead c.args.table.now c.args.chronicle.now c.loop-resource.table c.loop-resource.chronicle c.loop-resource.invariant c.in-Some.resource c.purge.new.table c.grant_all.new.table c.grant_all.new.chronicle (is_first c.loop-resource.table c.args.dead c.in-Some.resource c.purge.new.table c.in-Some.ensures.answer c.in-Some.ensures.after) c.in-Some.ensures.dead c.grant_all.ensures.grants

pub loop-resource-preserved : goal.loop-resource-preserved
loop-resource-preserved c =
    purging_goes c.args.dead c.args.table.now c.args.chronicle.now c.loop-resource.table c.loop-resource.chronicle c.loop-resource.invariant c.in-Some.resource c.purge.new.table c.grant_all.new.table c.grant_all.new.chronicle (is_first c.loop-resource.table c.args.dead c.in-Some.resource c.purge.new.table c.in-Some.ensures.answer c.in-Some.ensures.after) c.in-Some.ensures.dead c.grant_all.ensures.grants
    c.grant_all.ensures.lawful c.grant_all.ensures.few c.grant_all.ensures.room

pub returns-clause-grants : goal.returns-clause-grants
returns-clause-grants c =
    let none = is_over c.loop-resource.table c.args.dead c.purge.new.table c.in_default.ensures.answer c.in_default.ensures.after in
    purging_ends c.args.dead c.args.table.now c.args.chronicle.now c.loop-resource.table c.loop-resource.chronicle c.loop-resource.invariant c.purge.new.table none.0 none.1
