use Rattle.fbc_step_benchmarks.proofs.Ready.{page_lowered}
use Rattle.fbc_step_benchmarks.proofs.Requests.{join_free}
use Rattle.fbc_step_benchmarks.proofs.steps.lower_page.Goals as goal

pub perform-noted-requires-clause-ask : goal.perform-noted-requires-clause-ask
perform-noted-requires-clause-ask c = (c.requires.has.alive, join_free _)

pub returns-clause-ready : goal.returns-clause-ready
returns-clause-ready c =
    page_lowered c.args.region.now.journal c.perform-noted.new.self.journal _ c.perform-noted.result c.requires.has c.page_of.result c.page_of.ensures c.perform-noted.ensures.step
    (c.steps_leave_owners_alive.ensures c.args.region.now.journal c.perform-noted.new.self.journal 1 _ c.perform-noted.result _ c.perform-noted.ensures.step)
