use Rattle.fbc_simulation.proofs.ActsStep.{acts_simulated}
use Rattle.fbc_simulation.proofs.acts.acts_keep_simulation.Goals as goal

pub returns : goal.returns
returns c = λ shape file before moment legal no_edit whole simulated. acts_simulated shape file before moment legal no_edit whole simulated
