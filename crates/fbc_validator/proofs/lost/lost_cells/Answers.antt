use Rattle.std.proofs.Common.{◌≡◌, ap, ◌∙◌}
use Rattle.std.specs.List.{flat_map}
use Rattle.std.proofs.lemmas.List.{take_all}
use Rattle.fbc_validator.specs.Lost.{unlinked_in}
use Rattle.fbc_validator.proofs.LostCells.{cells_lost, lost_rise}
use Rattle.fbc_validator.proofs.lost.lost_cells.Goals as goal

pub returns-clause-rise : goal.returns-clause-rise
returns-clause-rise c =
    let pages = c.in_ok-pages.pages.items in
    let each = unlinked_in c.args.tally.now c.args.chains.now in
    let all : c.new.result ≡ flat_map each pages = c.new.ensures ∙ c.loop-page.invariant ∙ ap (flat_map each) (take_all c.loop-page.page-index c.deref-page-items.result.now c.loop-page-test.false ∙ c.deref-page-items.ensures.value) in
    lost_rise c.args.tally.now c.args.chains.now pages c.in_ok-pages.ensures.rise c.new.result all

pub returns-clause-cells : goal.returns-clause-cells
returns-clause-cells c shape bytes view size shown kept same are sound =
    let pages = c.in_ok-pages.pages.items in
    let each = unlinked_in c.args.tally.now c.args.chains.now in
    let all : c.new.result ≡ flat_map each pages = c.new.ensures ∙ c.loop-page.invariant ∙ ap (flat_map each) (take_all c.loop-page.page-index c.deref-page-items.result.now c.loop-page-test.false ∙ c.deref-page-items.ensures.value) in
    cells_lost shape bytes view size shown sound c.args.tally.now kept c.args.chains.now are c.args.found.now same pages c.in_ok-pages.ensures.named c.new.result all
