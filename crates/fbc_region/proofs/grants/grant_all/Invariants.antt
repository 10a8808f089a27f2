use Rattle.fbc_region.specs.Granting.{waits_in}
use Rattle.fbc_region.proofs.GrantLoop.{Granting}
use Rattle.fbc_region.proofs.grants.grant_all.Given as goal

abbrev pub invariant-loop-owner : goal.invariant-loop-owner
invariant-loop-owner l = Granting l.resource l.initial.table l.initial.chronicle l.table l.chronicle

abbrev pub decreases-loop-owner : goal.decreases-loop-owner
decreases-loop-owner l = waits_in l.table
