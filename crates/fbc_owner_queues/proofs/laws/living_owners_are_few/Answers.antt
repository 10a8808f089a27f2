use Rattle.fbc_owner_queues.proofs.Census.{living_few}
use Rattle.fbc_owner_queues.proofs.Members.{few_living}
use Rattle.fbc_owner_queues.proofs.laws.living_owners_are_few.Goals as goal

pub returns-clause-census : goal.returns-clause-census
returns-clause-census c = living_few

pub returns-clause-requests : goal.returns-clause-requests
returns-clause-requests c = few_living
