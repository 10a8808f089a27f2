use Rattle.std.proofs.Common.{◌≡◌, ◌+◌, ◌++◌, ◌∷◌, [], ap, ◌∙◌}
use Rattle.fbc_kinds.specs.DataSpelling.{SpellsCell, has_unknown_flag, is_bad_cell, piece}
use Rattle.fbc_cells.proofs.AnyPiece.{any_piece_none}
use Rattle.fbc_cells.proofs.CellsRead.{cells_read_more}
use Rattle.fbc_cells.proofs.data.read_cells.Goals as goal

pub decode_cell-cell-requires-clause-flag : goal.decode_cell-cell-requires-clause-flag
decode_cell-cell-requires-clause-flag c =
    ap has_unknown_flag c.cell_at.ensures
    ∙ any_piece_none has_unknown_flag (12 + c.args.greatest) c.args.bytes.now c.args.count c.loop-k.k c.loop-k-test.true c.requires.flags

pub decode_cell-cell-requires-clause-fair : goal.decode_cell-cell-requires-clause-fair
decode_cell-cell-requires-clause-fair c =
    ap (is_bad_cell c.args.greatest) c.cell_at.ensures
    ∙ any_piece_none (is_bad_cell c.args.greatest) (12 + c.args.greatest) c.args.bytes.now c.args.count c.loop-k.k c.loop-k-test.true c.requires.fair

pub loop-k-preserved : goal.loop-k-preserved
loop-k-preserved c =
    let cell = c.decode_cell-cell.result in
    let spelled : SpellsCell c.args.greatest cell (piece (12 + c.args.greatest) c.loop-k.k c.args.bytes.now) = rw c.cell_at.ensures at c.decode_cell-cell.ensures.spelled in
    cells_read_more c.args.greatest c.loop-k.k c.loop-k.cells.items c.push.new.self.items cell c.args.bytes.now c.in_ok-push.ensures.items
    c.loop-k.invariant.0 c.loop-k.invariant.1 c.decode_cell-cell.ensures.fits c.loop-k.invariant.2 spelled
