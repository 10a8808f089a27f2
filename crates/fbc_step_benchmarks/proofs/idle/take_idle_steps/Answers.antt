use Rattle.std.proofs.Common.{◌∙◌, suc, ◌+◌, ◌-◌, sym, arith}
use Rattle.fbc_step_benchmarks.proofs.Ready.{fewer_steps}
use Rattle.fbc_step_benchmarks.proofs.idle.take_idle_steps.Goals as goal

pub loop-preserved : goal.loop-preserved
loop-preserved c = (
  c.in_ok-take_idle_step.ensures.alive,
  c.take_idle_step.ensures.reserved (c.args.count - (c.loop.counter + 1))
      (fewer_steps c.loop.region.journal (c.args.count - c.loop.counter) (suc (c.args.count - (c.loop.counter + 1))) (omega (arith, c.loop-test.true)) c.loop.invariant.1),
  c.take_idle_step.ensures.image ∙ c.loop.invariant.2 ∙ sym c.take_idle_step.ensures.size,
)
