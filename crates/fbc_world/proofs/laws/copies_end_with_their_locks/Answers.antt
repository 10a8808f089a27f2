use Rattle.std.proofs.Common.{arith}
use Rattle.std.proofs.lemmas.Bool.Decides.{nat_tests}
use Rattle.fbc_world.proofs.laws.copies_end_with_their_locks.Goals as goal

pub returns-clause-lowered : goal.returns-clause-lowered
returns-clause-lowered c = λ shape file before owner page landed. grind (arith, nat_tests)

pub returns-clause-died : goal.returns-clause-died
returns-clause-died c = λ shape file before owner page landed. grind (arith, nat_tests)
