use Rattle.std.proofs.Common.{length}
use Rattle.fbc_region.specs.Granting.{resources_of}
use Rattle.fbc_region.proofs.PurgeLoop.{Purging}
use Rattle.fbc_region.proofs.grants.purge_all.Given as goal

abbrev pub invariant-loop-resource : goal.invariant-loop-resource
invariant-loop-resource l = Purging l.dead l.initial.table l.initial.chronicle l.table l.chronicle

abbrev pub decreases-loop-resource : goal.decreases-loop-resource
decreases-loop-resource l = length (resources_of l.table l.dead)
