use Rattle.std.proofs.Common.{suc, arith}
use Rattle.fbc_step_benchmarks.proofs.Ready.{fewer_steps}
use Rattle.fbc_step_benchmarks.proofs.time_looks.Goals as goal

pub take_idle_steps-requires-clause-reserved : goal.take_idle_steps-requires-clause-reserved
take_idle_steps-requires-clause-reserved c =
    c.wait_for_page.ensures.reserved c.args.count
    (fewer_steps c.in_ok-region.region.journal c.in-Some.steps (suc c.args.count) (omega (arith, c.in-Some.ensures)) c.in_ok-region.ensures.reserved)
