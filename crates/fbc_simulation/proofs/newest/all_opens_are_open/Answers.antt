use Rattle.fbc_simulation.proofs.OpensListed.{all-open, listed-open, open-listed}
use Rattle.fbc_simulation.proofs.newest.all_opens_are_open.Goals as goal

pub returns-clause-listed : goal.returns-clause-listed
returns-clause-listed c shape file past t stand = (listed-open shape file past stand t, open-listed shape file past stand t.owner t)

pub returns-clause-opens : goal.returns-clause-opens
returns-clause-opens c = all-open
