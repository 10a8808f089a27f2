use Rattle.std.proofs.Common.{◌≡◌, ◌+◌, ◌*◌, true, drop, ap, sym, ◌∙◌}
use Rattle.fbc_kinds.specs.DataSpelling.{cells_end}
use Rattle.fbc_kinds.specs.Head.{is_zeros}
use Rattle.fbc_cells.proofs.CellsRead.{zeros_left}
use Rattle.fbc_cells.proofs.data.check_cells.Goals as goal

pub returns-clause-rest : goal.returns-clause-rest
returns-clause-rest c =
    let end = cells_end c.args.size c.args.greatest in
    let same : 16 + (12 + c.args.greatest) * c.cells_of-count.result ≡ end = ap (λ n. 16 + (12 + c.args.greatest) * n) c.cells_of-count.ensures.value in
    let zeros : is_zeros (drop end c.args.bytes.now) ≡ true =
    ap (λ n. is_zeros (drop n c.args.bytes.now)) (sym same) ∙ ap is_zeros (sym c.bytes_from.ensures) ∙ sym c.is_zeros.ensures ∙ c.if-not-is_zeros.false in
    zeros_left end c.args.size c.args.bytes.now c.requires.length zeros
