use Rattle.std.proofs.Common.{◌≡◌, ◌+◌, true, false, refl, sym, ap, ◌∙◌}
use Rattle.fbc_kinds.specs.DataSpelling.{any_piece, is_bad_cell}
use Rattle.fbc_cells.proofs.AnyPiece.{any_piece_here, any_piece_more}
use Rattle.fbc_cells.proofs.judged.has_bad_cell.Goals as goal

pub loop-k-init : goal.loop-k-init
unfolding any_piece
loop-k-init c = refl

pub returns-then-is_bad_cell : goal.returns-then-is_bad_cell
returns-then-is_bad_cell c =
    sym (any_piece_here (is_bad_cell c.args.greatest) (12 + c.args.greatest) c.args.cells.now c.args.count c.loop-k.k c.loop-k-test.true (ap (is_bad_cell c.args.greatest) (sym c.cell_at.ensures) ∙ sym c.is_bad_cell.ensures ∙ c.if-is_bad_cell.true))

pub loop-k-preserved : goal.loop-k-preserved
loop-k-preserved c =
    any_piece_more (is_bad_cell c.args.greatest) (12 + c.args.greatest) c.args.cells.now c.loop-k.k c.loop-k.invariant (ap (is_bad_cell c.args.greatest) (sym c.cell_at.ensures) ∙ sym c.is_bad_cell.ensures ∙ c.if-is_bad_cell.false)
