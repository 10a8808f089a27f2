use Rattle.fbc_kinds.specs.declared.edits.Edit.TheVariants.{ClearCell}
use Rattle.fbc_legal.specs.Rows.{IsClearing}
use Rattle.fbc_legal.specs.Scene.{scene_of}
use Rattle.fbc_simulation.specs.EditIn.{EditIsMeant}
use Rattle.fbc_simulation.proofs.CellEdits.{beside, living-open, owners-differ, reads-before, seen}
use Rattle.fbc_simulation.proofs.ClearsMeant.{clear-in, clears-read, deleted, lone, unnamed}
use Rattle.fbc_simulation.proofs.OpenNumbers.{dead-closed, settled-in}
use Rattle.fbc_simulation.proofs.cells.cleared_cells_are_meant.Goals as goal

pub returns : goal.returns
returns c shape file past owner page cell content cut living is = go is.sees.guard.row
  where
    go : IsClearing (scene_of shape file past) page cell → EditIsMeant shape file past owner page (ClearCell cell) content cut living
    go (IsClearing.backout old there top dead alone) =
        clears-read shape file past owner page cell content cut living is
        (c.cleared_versions_are_not_read.ensures shape (seen shape file past owner page (ClearCell cell) content cut living is) page cell content living
        (beside shape file past owner page (ClearCell cell) content cut living is)
        (clear-in shape file past owner page cell content cut living is)
        (lone shape file past owner page cell content cut living is old there top dead alone)
        (dead-closed (scene_of shape file past) is.whole cut is.closed living is.opens old.number dead)
        (owners-differ shape file past owner page (ClearCell cell) content cut living is)
        (reads-before shape file past owner page (ClearCell cell) content cut living is))
    go (IsClearing.deleted old there deletion settled) =
        clears-read shape file past owner page cell content cut living is
        (c.cleared_deletions_are_not_read.ensures shape (seen shape file past owner page (ClearCell cell) content cut living is) page cell content living
        (beside shape file past owner page (ClearCell cell) content cut living is)
        (clear-in shape file past owner page cell content cut living is)
        (deleted shape file past owner page cell content cut living is old there deletion settled)
        (living-open shape file past owner page (ClearCell cell) content cut living is)
        (settled-in (scene_of shape file past) is.whole cut is.closed living is.opens old.number settled)
        (owners-differ shape file past owner page (ClearCell cell) content cut living is)
        (reads-before shape file past owner page (ClearCell cell) content cut living is))
    go (IsClearing.unreached old there value none) =
        clears-read shape file past owner page cell content cut living is
        (c.cleared_values_are_not_read.ensures shape (seen shape file past owner page (ClearCell cell) content cut living is) page cell content living
        (beside shape file past owner page (ClearCell cell) content cut living is)
        (clear-in shape file past owner page cell content cut living is)
        (unnamed shape file past owner page cell content cut living is old there value)
        (reads-before shape file past owner page (ClearCell cell) content cut living is))
