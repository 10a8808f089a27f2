use Rattle.std.proofs.Common.{sym}
use Rattle.fbc_levels.specs.Levels.{is_compatible}
use Rattle.fbc_blocking.specs.Callbacks.{wanted_by}
use Rattle.fbc_blocking.proofs.Wanted.{all_more, all_not}
use Rattle.fbc_blocking.proofs.callbacks.goes_beside.Goals as goal

pub returns-then-not-leaves_room : goal.returns-then-not-leaves_room
returns-then-not-leaves_room c =
    sym (all_not (is_compatible c.args.level) (wanted_by c.args.owner c.args.page) c.args.table.now.requests c.loop-k.k c.request-request.result c.request-request.ensures.at (sym c.if-not-leaves_room.ensures))

pub loop-k-preserved : goal.loop-k-preserved
loop-k-preserved c =
    all_more (is_compatible c.args.level) (wanted_by c.args.owner c.args.page) c.args.table.now.requests c.loop-k.k c.request-request.result c.loop-k.invariant c.request-request.ensures.at (sym c.if-not-leaves_room.ensures)
