use Rattle.std.proofs.Common.{arith}
use Rattle.fbc_lock_tests.proofs.steps.circle.Goals as goal

pub cycle_from-requires : goal.cycle_from-requires
cycle_from-requires g c = omega (arith, c.living_owners_are_few.ensures.requests c.args.table.now, c.used.ensures.count)
