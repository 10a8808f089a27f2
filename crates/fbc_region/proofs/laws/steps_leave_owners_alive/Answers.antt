use Rattle.fbc_region.proofs.StayingAlive.{alive_performed}
use Rattle.fbc_region.proofs.laws.steps_leave_owners_alive.Goals as goal

pub returns : goal.returns
returns c before after who events answer asked done stays faultless owner alive = alive_performed before after who events answer asked done stays faultless owner alive
