use Rattle.fbc_region.proofs.StepMoments.{step_performed}
use Rattle.fbc_region.proofs.steps_laws.performed_steps_are_steps.Goals as goal

pub returns : goal.returns
returns c before after landings new who events answer asked done are = step_performed before after landings new who events answer asked done are
