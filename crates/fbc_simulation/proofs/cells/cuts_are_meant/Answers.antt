use Rattle.std.proofs.Common.{sym, ap, subst}
use Rattle.fbc_kinds.specs.declared.edits.Edit.TheVariants.{PutCell}
use Rattle.fbc_kinds.specs.declared.pages.Cell.{Cell}
use Rattle.fbc_legal.specs.Rows.{IsHeldByAll}
use Rattle.fbc_legal.specs.Scene.{scene_of}
use Rattle.fbc_origins.proofs.PutsAllowed.{allows-cut}
use Rattle.fbc_simulation.proofs.CellEdits.{beside, living-open, owners-differ, reads-before}
use Rattle.fbc_simulation.proofs.OpenNumbers.{settled-in}
use Rattle.fbc_simulation.proofs.PutsIn.{before, origin, put-in, reads-meant}
use Rattle.fbc_simulation.proofs.PutsNone.{cut-committed, cuts-none}
use Rattle.fbc_simulation.proofs.cells.cuts_are_meant.Goals as goal

pub returns : goal.returns
returns c shape file past owner page cell new content cut living is takes =
    let at = scene_of shape file past in
    let order = is.whole.order in
    let view = before shape file past owner page cell new content cut living is in
    reads-meant shape file past owner page cell new content cut living is
    (c.cuts_are_not_read.ensures shape view page cell new content living
    (beside shape file past owner page (PutCell cell new) content cut living is)
    (put-in shape file past owner page cell new content cut living is)
    (allows-cut at order.upheld order.numbered order.original owner page cell new is.sees.guard view (origin shape file past owner page cell new content cut living is) is.sees.sees takes)
    (living-open shape file past owner page (PutCell cell new) content cut living is)
    (settled-in at is.whole cut is.closed living is.opens new.number
    (record { committed = cut-committed shape file past is.whole owner page cell new is.sees.guard takes; held = subst (IsHeldByAll at) (sym (ap (λ (v : Cell). v.number) takes.same)) takes.settled.held }))
    (owners-differ shape file past owner page (PutCell cell new) content cut living is)
    (reads-before shape file past owner page (PutCell cell new) content cut living is))
    (cuts-none shape file past is.whole owner page cell new is.sees.guard takes)
