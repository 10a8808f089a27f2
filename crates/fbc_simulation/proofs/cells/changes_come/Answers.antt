use Rattle.std.proofs.Common.{◌≡◌, []}
use Rattle.fbc_kinds.specs.declared.edits.Edit.TheVariants.{PutCell}
use Rattle.fbc_legal.specs.Rows.{IsPut}
use Rattle.fbc_legal.specs.Scene.{scene_of}
use Rattle.fbc_world.specs.World.{world_of}
use Rattle.fbc_simulation.specs.Beside.{machine_of}
use Rattle.fbc_simulation.specs.Carried.{IsPutCarriedOut}
use Rattle.fbc_simulation.specs.Changes.{AreDone}
use Rattle.fbc_simulation.specs.EditIn.{commands_made}
use Rattle.fbc_simulation.specs.Newest.{all_drafts, opens_at}
use Rattle.fbc_simulation.proofs.ChangesCome.{newest-done, none-done, open-lives}
use Rattle.fbc_simulation.proofs.NewestSees.{newest-put-in}
use Rattle.fbc_simulation.proofs.OpensListed.{all-open}
use Rattle.fbc_simulation.proofs.PutsNone.{backouts-none, cuts-none, moves-none}
use Rattle.fbc_simulation.proofs.cells.changes_come.Goals as goal

pub returns : goal.returns
returns c shape file past owner page cell new content whole simulated g fits = go g.row
  where
    Done : Type 0
    Done = AreDone (machine_of shape file past) (commands_made shape (world_of shape file past) owner page (PutCell cell new))

    none : commands_made shape (world_of shape file past) owner page (PutCell cell new) ≡ [] → Done
    none is = none-done (machine_of shape file past) (commands_made shape (world_of shape file past) owner page (PutCell cell new)) is

    one : IsPutCarriedOut shape file past owner page cell new content (all_drafts (world_of shape file past)) (opens_at (scene_of shape file past)) → Done
    one carried = newest-done shape file past whole simulated owner page cell new content carried

    go : IsPut (scene_of shape file past) owner page cell new → Done
    go (IsPut.first form) =
        one
        ((c.puts_of_the_living_are_carried_out.ensures shape file past owner page cell new content (all_drafts (world_of shape file past)) (opens_at (scene_of shape file past))
        (newest-put-in shape file past owner page cell new content (opens_at (scene_of shape file past)) (all-open shape file past whole.order.numbered.stand) whole simulated g fits) (open-lives shape file past whole simulated owner page cell new form.t form.open_is)).first form)
    go (IsPut.over_own form) =
        one
        ((c.puts_of_the_living_are_carried_out.ensures shape file past owner page cell new content (all_drafts (world_of shape file past)) (opens_at (scene_of shape file past))
        (newest-put-in shape file past owner page cell new content (opens_at (scene_of shape file past)) (all-open shape file past whole.order.numbered.stand) whole simulated g fits) (open-lives shape file past whole simulated owner page cell new form.t form.open_is)).own form)
    go (IsPut.over form) =
        one
        ((c.puts_of_the_living_are_carried_out.ensures shape file past owner page cell new content (all_drafts (world_of shape file past)) (opens_at (scene_of shape file past))
        (newest-put-in shape file past owner page cell new content (opens_at (scene_of shape file past)) (all-open shape file past whole.order.numbered.stand) whole simulated g fits) (open-lives shape file past whole simulated owner page cell new form.t form.open_is)).over form)
    go (IsPut.move form) = none (moves-none shape file past whole owner page cell new g form)
    go (IsPut.backout form) = none (backouts-none shape file past whole owner page cell new g form)
    go (IsPut.cut form) = none (cuts-none shape file past whole owner page cell new g form)
