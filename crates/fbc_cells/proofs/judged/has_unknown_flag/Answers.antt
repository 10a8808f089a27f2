use Rattle.std.proofs.Common.{◌≡◌, ◌+◌, true, false, refl, sym, ap, ◌∙◌}
use Rattle.fbc_kinds.specs.DataSpelling.{any_piece, has_unknown_flag}
use Rattle.fbc_cells.proofs.AnyPiece.{any_piece_here, any_piece_more}
use Rattle.fbc_cells.proofs.judged.has_unknown_flag.Goals as goal

pub loop-k-init : goal.loop-k-init
unfolding any_piece
loop-k-init c = refl

pub returns-then-is_unknown : goal.returns-then-is_unknown
returns-then-is_unknown c =
    sym (any_piece_here has_unknown_flag c.args.width c.args.cells.now c.args.count c.loop-k.k c.loop-k-test.true (ap has_unknown_flag (sym c.cell_at.ensures) ∙ sym c.is_unknown.ensures ∙ c.if-is_unknown.true))

pub loop-k-preserved : goal.loop-k-preserved
loop-k-preserved c =
    any_piece_more has_unknown_flag c.args.width c.args.cells.now c.loop-k.k c.loop-k.invariant (ap has_unknown_flag (sym c.cell_at.ensures) ∙ sym c.is_unknown.ensures ∙ c.if-is_unknown.false)
