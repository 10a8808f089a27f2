use Rattle.std.proofs.Common.{[]}
use Rattle.fbc_world.specs.World.{world_of}
use Rattle.fbc_cut.proofs.NoOne.{none-open}
use Rattle.fbc_cut.proofs.laws.every_cut_means_the_machine.Goals as goal

pub returns : goal.returns
returns c shape file history cut of_shape sound legal closed =
    ((c.legal_histories_are_simulated.ensures shape file history of_shape sound legal).meant cut [] closed (none-open (world_of shape file history) cut)).means
