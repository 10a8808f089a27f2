use Rattle.std.proofs.Common.{subst}
use Rattle.fbc_kinds.specs.Meaning.{meaning_with}
use Rattle.fbc_kinds.specs.View.{View}
use Rattle.fbc_runs.specs.Reading.{ReadsAs}
use Rattle.fbc_legal.specs.Scene.{scene_of}
use Rattle.fbc_closed_cuts.specs.Cut.{view}
use Rattle.fbc_numbers.proofs.CutFacts.{all-closed, all-view}
use Rattle.fbc_world.specs.World.{world_of}
use Rattle.fbc_simulation.specs.Beside.{commits_in, machine_of}
use Rattle.fbc_simulation.specs.Newest.{all_drafts, opens_at}
use Rattle.fbc_simulation.proofs.OpensListed.{all-open}
use Rattle.fbc_simulation.proofs.WholeMachine.{whole-machine}
use Rattle.fbc_simulation.proofs.newest.newest_pages_are_meant.Goals as goal

pub returns : goal.returns
returns c shape file past whole simulated =
    let w = world_of shape file past in
    let living = opens_at (scene_of shape file past) in
    subst (λ (v : View). ReadsAs (meaning_with living v) (machine_of shape file past)) (all-view w)
    (subst (ReadsAs (meaning_with living (view w (all_drafts w)))) (whole-machine shape file past whole.order.numbered.stand simulated.opens (commits_in w (all_drafts w)))
    (simulated.meant (all_drafts w) living (all-closed w) (all-open shape file past whole.order.numbered.stand)))
