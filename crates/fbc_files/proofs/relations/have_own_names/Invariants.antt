use Rattle.std.proofs.Common.{◌≡◌, drop}
use Rattle.fbc_files.specs.RelationTests.{have_own_names}
use Rattle.fbc_files.proofs.relations.have_own_names.Given as goal

abbrev pub invariant-loop-i : goal.invariant-loop-i
invariant-loop-i l = have_own_names l.relations ≡ have_own_names (drop l.i l.relations)
