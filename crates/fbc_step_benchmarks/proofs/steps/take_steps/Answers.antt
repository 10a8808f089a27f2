use Rattle.std.proofs.Common.{◌∙◌, suc, ◌+◌, ◌-◌, sym, arith}
use Rattle.fbc_step_benchmarks.proofs.Ready.{fewer_steps}
use Rattle.fbc_step_benchmarks.proofs.steps.take_steps.Goals as goal

pub loop-turn-preserved : goal.loop-turn-preserved
loop-turn-preserved c = (
  c.in_ok-take_step.ensures.ready,
  c.take_step.ensures.reserved (c.args.count - (c.loop-turn.turn + 1))
      (fewer_steps c.loop-turn.region.journal (c.args.count - c.loop-turn.turn) (suc (c.args.count - (c.loop-turn.turn + 1))) (omega (arith, c.loop-turn-test.true)) c.loop-turn.invariant.1),
  c.take_step.ensures.image ∙ c.loop-turn.invariant.2 ∙ sym c.take_step.ensures.size,
)
