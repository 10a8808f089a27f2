use Rattle.std.proofs.Common.{◌+◌, ◌%◌}
use Rattle.fbc_region.specs.Shared.{locks_in}
use Rattle.fbc_step_benchmarks.proofs.Ready.{free_when, has_page, look_next, on_both, ready_page}
use Rattle.fbc_step_benchmarks.proofs.Requests.{free_may}
use Rattle.fbc_step_benchmarks.proofs.steps.take_step.Goals as goal

pub take_page-requires-clause-may : goal.take_page-requires-clause-may
take_page-requires-clause-may c = free_may (locks_in c.args.region.now.journal) 0 (free_when (c.args.turn % 3) c.args.region.now.journal c.in-0.is c.requires.ready).none

pub returns-in-0-clause-ready : goal.returns-in-0-clause-ready
returns-in-0-clause-ready c =
    on_both c.take_page.result _ _ _
    (λ granted alive. ready_page ((c.args.turn + 1) % 3) c.take_page.new.region.journal (look_next c.args.turn c.in-0.is)
    (has_page c.args.region.now.journal c.take_page.new.region.journal alive (free_when (c.args.turn % 3) c.args.region.now.journal c.in-0.is c.requires.ready) granted))
    c.take_page.ensures.granted c.take_page.ensures.alive
