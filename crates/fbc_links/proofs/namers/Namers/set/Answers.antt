use Rattle.std.proofs.Common.{Some, sym, ap, ◌∙◌}
use Rattle.std.proofs.lemmas.Option.{slice_get-get_or}
use Rattle.std.proofs.lemmas.Result.{on_ok_weaker}
use Rattle.fbc_links.proofs.MarkedCells.{set_in_row}
use Rattle.fbc_links.proofs.namers.Namers.set.Goals as goal

pub returns : goal.returns
returns c =
    on_ok_weaker c.set_mark.result
    (λ marked. set_in_row c.args.self.now.rows.items c.add_rows.new.rows.items c.args.index c.args.cell c.args.namer c.index_mut.result.now c.set_mark.new.row c.in_ok-add_rows.ensures.within
    c.in_ok-add_rows.ensures.same
    (slice_get-get_or c.add_rows.new.rows.items c.args.index c.index_mut.result.now c.in_ok-add_rows.ensures.within ∙ ap Some (sym c.index_mut.ensures.value))
    marked)
    (rw c.from.ensures at c.set_mark.ensures)
