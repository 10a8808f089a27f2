use Rattle.fbc_kinds.specs.declared.edits.Edit.TheVariants.{PutCell}
use Rattle.fbc_legal.specs.Scene.{scene_of}
use Rattle.fbc_origins.proofs.PutsAllowed.{allows-move}
use Rattle.fbc_simulation.proofs.CellEdits.{beside, reads-before}
use Rattle.fbc_simulation.proofs.PutsIn.{before, origin, put-in, reads-meant}
use Rattle.fbc_simulation.proofs.PutsNone.{moves-none}
use Rattle.fbc_simulation.proofs.cells.moves_are_meant.Goals as goal

pub returns : goal.returns
returns c shape file past owner page cell new content cut living is move =
    let order = is.whole.order in
    let view = before shape file past owner page cell new content cut living is in
    reads-meant shape file past owner page cell new content cut living is
    (c.moves_are_not_read.ensures shape view page cell new content living
    (beside shape file past owner page (PutCell cell new) content cut living is)
    (put-in shape file past owner page cell new content cut living is)
    (allows-move (scene_of shape file past) order.upheld order.numbered order.original owner page cell new is.sees.guard view (origin shape file past owner page cell new content cut living is) is.sees.sees move)
    (reads-before shape file past owner page (PutCell cell new) content cut living is))
    (moves-none shape file past is.whole owner page cell new is.sees.guard move)
