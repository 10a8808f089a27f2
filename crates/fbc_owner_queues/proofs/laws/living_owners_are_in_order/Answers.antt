use Rattle.fbc_owner_queues.proofs.Ordered.{living_rising, living_those}
use Rattle.fbc_owner_queues.proofs.laws.living_owners_are_in_order.Goals as goal

pub returns-clause-rising : goal.returns-clause-rising
returns-clause-rising c = living_rising

pub returns-clause-those : goal.returns-clause-those
returns-clause-those c = living_those
