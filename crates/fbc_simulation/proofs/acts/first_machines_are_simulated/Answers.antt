use Rattle.fbc_simulation.proofs.FirstMoments.{first_simulated}
use Rattle.fbc_simulation.proofs.acts.first_machines_are_simulated.Goals as goal

pub returns : goal.returns
returns c = λ shape file of_shape sound. first_simulated shape file of_shape sound
