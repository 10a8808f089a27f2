use Rattle.std.proofs.Common.{◌≡◌, take}
use Rattle.fbc_reach.specs.Tally.{named_by_tally}
use Rattle.fbc_reach.proofs.walking.data_namings.Given as goal

-- The data pages so far.
abbrev pub invariant-loop-naming : goal.invariant-loop-naming
invariant-loop-naming l = l.found.items ≡ named_by_tally l.tally (take l.naming-index l.namings)
