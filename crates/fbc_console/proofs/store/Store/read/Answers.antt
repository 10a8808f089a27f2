use Rattle.std.proofs.Common.{slice_get, slice_index_or, Some, ap, sym, ◌∙◌, arith}
use Rattle.fbc_console.proofs.StoreLemmas.{length-cells, slice_get-values_of}
use Rattle.fbc_console.proofs.store.Store.read.Goals as goal

pub bounds-items-row : goal.bounds-items-row
bounds-items-row c = rw c.items.ensures (omega (arith, length-cells c.self.inside c.self.invariant, c.self.invariant.room, c.if-row-self.false))

pub bounds-items-row-else-row-self : goal.bounds-items-row-else-row-self
bounds-items-row-else-row-self c = rw c.items.ensures (omega (arith, length-cells c.self.inside c.self.invariant, c.self.invariant.room, c.if-row-self.false))

pub returns : goal.returns
returns c =
    ap (λ cells. Some (slice_index_or cells c.args.row c.index-items-row.result).value) c.items.ensures
    ∙ sym (slice_get-values_of c.self.inside c.args.row c.index-items-row.result c.self.invariant c.if-row-self.false)
    ∙ ap (λ values. slice_get values c.args.row) c.self.view_is
