use Rattle.std.proofs.Common.{◌++◌, take, sym, refl, ap, ◌∙◌, true, false}
use Rattle.std.proofs.lemmas.List.{take_all}
use Rattle.fbc_validator.specs.Lost.{cell_limit, unlinked_from}
use Rattle.fbc_validator.proofs.Places.{take_least}
use Rattle.fbc_validator.proofs.Unlinked.{unlinked_step}
use Rattle.fbc_validator.proofs.lost.push_cells.Goals as goal
use Rattle.fbc_validator.proofs.lost.push_cells.Goals.{then-is_unlinked+in_ok-push, else-is_unlinked}

pub loop-cell-preserved : goal.loop-cell-preserved
loop-cell-preserved c =
    let few = take c.min-count.result c.args.versions.now in
    elim c.if-is_unlinked.branch [
      | then-is_unlinked+in_ok-push w ↦
          unlinked_step c.args.chains.now c.args.page c.args.lost.now.items c.loop-cell.lost.items c.if-is_unlinked.lost.items few c.loop-cell.cell _ true
          c.loop-cell-test.true (sym c.is_unlinked.ensures ∙ w.if-is_unlinked.true) c.loop-cell.invariant (rw w.lost-is w.in_ok-push.ensures.items)
      | else-is_unlinked w ↦
          unlinked_step c.args.chains.now c.args.page c.args.lost.now.items c.loop-cell.lost.items c.if-is_unlinked.lost.items few c.loop-cell.cell _ false
          c.loop-cell-test.true (sym c.is_unlinked.ensures ∙ w.if-is_unlinked.false) c.loop-cell.invariant (rw w.lost-is refl)
    ]

pub returns : goal.returns
returns c =
    c.loop-cell.invariant
    ∙ ap (λ some. c.args.lost.now.items ++ unlinked_from c.args.chains.now c.args.page 0 some)
    (take_all c.loop-cell.cell (take c.min-count.result c.args.versions.now) c.loop-cell-test.false ∙ take_least c.args.versions.now c.min-count.result cell_limit c.min-count.ensures)
