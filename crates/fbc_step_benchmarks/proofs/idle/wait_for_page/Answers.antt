use Rattle.fbc_region.specs.Shared.{locks_in}
use Rattle.fbc_step_benchmarks.proofs.Requests.{free_may}
use Rattle.fbc_step_benchmarks.proofs.idle.wait_for_page.Goals as goal

pub perform-requires-clause-ask : goal.perform-requires-clause-ask
perform-requires-clause-ask c =
    (c.requires.ready.alive, rw c.page.ensures (free_may (locks_in c.args.region.now.journal) 1 c.requires.ready.none))
