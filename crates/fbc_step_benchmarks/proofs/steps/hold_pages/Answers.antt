use Rattle.std.proofs.Common.{◌∙◌, suc, ◌+◌, ◌-◌, sym, arith}
use Rattle.fbc_region.specs.Shared.{locks_in}
use Rattle.fbc_step_benchmarks.proofs.Ready.{fewer_steps, free_beside, holds_more}
use Rattle.fbc_step_benchmarks.proofs.Requests.{held_may}
use Rattle.fbc_step_benchmarks.proofs.steps.hold_pages.Goals as goal

pub take_page-requires-clause-may : goal.take_page-requires-clause-may
take_page-requires-clause-may c = held_may (c.loop-held.held + 1) (locks_in c.loop-held.region.journal) c.loop-held.invariant.0.held

pub loop-held-preserved : goal.loop-held-preserved
loop-held-preserved c = (
  holds_more c.loop-held.region.journal c.take_page.new.region.journal c.in_ok-take_page.ensures.alive (c.loop-held.held + 1) c.loop-held.invariant.0 c.in_ok-take_page.ensures.granted,
  c.take_page.ensures.reserved (c.args.count - (c.loop-held.held + 1))
      (fewer_steps c.loop-held.region.journal (c.args.count - c.loop-held.held) (suc (c.args.count - (c.loop-held.held + 1))) (omega (arith, c.loop-held-test.true)) c.loop-held.invariant.1),
  c.take_page.ensures.size ∙ c.loop-held.invariant.2,
  c.take_page.ensures.image ∙ c.loop-held.invariant.3 ∙ sym c.take_page.ensures.size,
)

pub returns-clause-ready : goal.returns-clause-ready
returns-clause-ready c = free_beside (c.loop-held.held + 1) c.loop-held.region.journal c.loop-held.invariant.0

pub returns-clause-second : goal.returns-clause-second
returns-clause-second c = c.loop-held.invariant.0.second
