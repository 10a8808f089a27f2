use Rattle.std.proofs.Common.{ap, ◌∙◌, arith}
use Rattle.fbc_console.specs.FreshFile.{filled_data}
use Rattle.fbc_console.proofs.CommitLemmas.{AreImages-filled, IsImage-data}
use Rattle.fbc_console.proofs.StoreLemmas.{data_fits, has_values}
use Rattle.fbc_console.proofs.store.Store.commit.Goals as goal

pub image_of_data-data-requires : goal.image_of_data-data-requires
image_of_data-data-requires c = data_fits c.self.inside c.self.invariant

pub returns-clause-images : goal.returns-clause-images
returns-clause-images c =
    rw c.in_ok-vec-2.ensures.items
    (AreImages-filled c.args.self c.image_of_begun-header.result c.image_of_taken-inventory.result c.image_of_data-data.result c.image_of_named-pointer.result c.image_of_committed-tip.result
    (has_values c.self.inside c.args.self c.self.view_is c.self.invariant (omega (arith, c.if-rows-eq0.false)))
    c.image_of_begun-header.ensures
    c.image_of_taken-inventory.ensures
    (IsImage-data c.self.inside.data (filled_data c.args.self) c.image_of_data-data.result (c.self.invariant.data_is ∙ ap filled_data c.self.view_is) c.image_of_data-data.ensures.page c.image_of_data-data.ensures.bytes)
    c.image_of_named-pointer.ensures
    c.image_of_committed-tip.ensures)
