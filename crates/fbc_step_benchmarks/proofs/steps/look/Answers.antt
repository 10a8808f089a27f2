use Rattle.fbc_step_benchmarks.proofs.Ready.{page_looked}
use Rattle.fbc_step_benchmarks.proofs.steps.look.Goals as goal

pub returns-clause-has : goal.returns-clause-has
returns-clause-has c =
    page_looked c.args.region.now.journal c.perform.new.self.journal _ c.perform.result c.requires.has c.perform.ensures.step c.in-Granted.is
    (c.steps_leave_owners_alive.ensures c.args.region.now.journal c.perform.new.self.journal 1 _ c.perform.result _ c.perform.ensures.step)
