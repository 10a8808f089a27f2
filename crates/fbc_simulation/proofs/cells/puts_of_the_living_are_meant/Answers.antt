use Rattle.fbc_legal.specs.Scene.{scene_of}
use Rattle.fbc_world.specs.World.{world_of}
use Rattle.fbc_simulation.specs.Newest.{all_drafts, opens_at}
use Rattle.fbc_simulation.proofs.ChangesCome.{open-lives}
use Rattle.fbc_simulation.proofs.NewestSees.{newest-put-in}
use Rattle.fbc_simulation.proofs.OpensListed.{all-open}
use Rattle.fbc_simulation.proofs.PutsLiving.{living-meant}
use Rattle.fbc_simulation.proofs.cells.puts_of_the_living_are_meant.Goals as goal

pub returns : goal.returns
returns c shape file past owner page cell new content cut living is lives =
    record {
      first = λ form.
          living-meant shape file past owner page cell new content cut living is lives
          ((c.puts_of_the_living_are_carried_out.ensures shape file past owner page cell new content cut living is lives).first form)
          ((c.puts_of_the_living_are_carried_out.ensures shape file past owner page cell new content (all_drafts (world_of shape file past)) (opens_at (scene_of shape file past))
          (newest-put-in shape file past owner page cell new content (opens_at (scene_of shape file past)) (all-open shape file past is.whole.order.numbered.stand) is.whole is.simulated is.sees.guard is.made)
          (open-lives shape file past is.whole is.simulated owner page cell new form.t form.open_is)).first form);
      own = λ form.
          living-meant shape file past owner page cell new content cut living is lives
          ((c.puts_of_the_living_are_carried_out.ensures shape file past owner page cell new content cut living is lives).own form)
          ((c.puts_of_the_living_are_carried_out.ensures shape file past owner page cell new content (all_drafts (world_of shape file past)) (opens_at (scene_of shape file past))
          (newest-put-in shape file past owner page cell new content (opens_at (scene_of shape file past)) (all-open shape file past is.whole.order.numbered.stand) is.whole is.simulated is.sees.guard is.made)
          (open-lives shape file past is.whole is.simulated owner page cell new form.t form.open_is)).own form);
      over = λ form.
          living-meant shape file past owner page cell new content cut living is lives
          ((c.puts_of_the_living_are_carried_out.ensures shape file past owner page cell new content cut living is lives).over form)
          ((c.puts_of_the_living_are_carried_out.ensures shape file past owner page cell new content (all_drafts (world_of shape file past)) (opens_at (scene_of shape file past))
          (newest-put-in shape file past owner page cell new content (opens_at (scene_of shape file past)) (all-open shape file past is.whole.order.numbered.stand) is.whole is.simulated is.sees.guard is.made)
          (open-lives shape file past is.whole is.simulated owner page cell new form.t form.open_is)).over form);
    }
