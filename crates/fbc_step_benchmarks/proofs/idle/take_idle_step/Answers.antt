use Rattle.fbc_step_benchmarks.proofs.IdleAsks.{idle_stays}
use Rattle.fbc_step_benchmarks.proofs.idle.take_idle_step.Goals as goal

pub returns-in_default : goal.returns-in_default
returns-in_default c = record {
  alive =
      c.steps_leave_owners_alive.ensures c.args.region.now.journal c.perform.new.self.journal c.args.owner _ c.perform.result _ c.perform.ensures.step
      (idle_stays c.ask_of-ask.result c.ask_of-ask.ensures) c.in_default.not-WriteFault c.args.owner c.requires.alive;
  reserved = c.perform.ensures.reserved;
  size = c.perform.ensures.size;
  image = c.perform.ensures.image;
}
