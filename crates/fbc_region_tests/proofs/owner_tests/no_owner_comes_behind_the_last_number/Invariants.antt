use Rattle.fbc_region_tests.specs.Gone.{HaveGone}
use Rattle.fbc_region_tests.proofs.owner_tests.no_owner_comes_behind_the_last_number.Given as goal

abbrev pub invariant-loop-owners : goal.invariant-loop-owners
invariant-loop-owners g l = HaveGone l.fixture.region.journal l.owners
